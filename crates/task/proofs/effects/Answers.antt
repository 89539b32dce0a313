use Rattle.task.proofs.Slices.{states_eff}
use Rattle.task.proofs.effects.Goals as goal

pub returns : goal.returns
returns c = states_eff _ c.requires.0 _ c.requires.1 _ _ c.eff_start.ensures c.eff_end.ensures
