use Rattle.task.proofs.Slices.{states_pre}
use Rattle.task.proofs.preconditions.Goals as goal

pub returns : goal.returns
returns c = states_pre _ c.requires.0 _ c.requires.1 _ _ c.pre_start.ensures c.eff_start.ensures
