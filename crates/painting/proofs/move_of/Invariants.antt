-- The move among all effects is that among those still to come: the ones passed are of red variables or are needed.
use Rattle.std.proofs.Common.{◌≡◌}
use Rattle.planning.specs.Runs.{act}
use Rattle.task.specs.Task.{task_in}
use Rattle.painting.proofs.Moves.{move_from}
use Rattle.painting.proofs.move_of.Given as goal

abbrev pub invariant-loop-f : goal.invariant-loop-f
invariant-loop-f l = move_from l.paint (act (task_in l.task) l.i).pre l.effects 0 ≡ move_from l.paint (act (task_in l.task) l.i).pre l.effects l.f-index
