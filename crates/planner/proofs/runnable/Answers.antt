use mathlib.Core.Path.{refl}
use Rattle.planning.specs.Calls.{runnable}
use Rattle.planner.proofs.Laws.{runnable_front}
use Rattle.planner.proofs.runnable.Goals as goal

pub returns-in_default : goal.returns-in_default
unfolding runnable
returns-in_default c = rw c.in_default.is refl

pub returns : goal.returns
returns c = runnable_front _ _ c.in-Ok.is _ _ c.min.ensures
