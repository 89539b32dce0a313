use Rattle.task_size.proofs.Size.{room_long}
use Rattle.loader.proofs.with_task.Goals as goal

pub within-requires-2-clause-room : goal.within-requires-2-clause-room
within-requires-2-clause-room g c = room_long _
