use Rattle.planning.specs.Basics.{code}
use Rattle.mardiskos.proofs.mardiskos_judge.Goals as goal

pub returns-in_default : goal.returns-in_default
unfolding code
returns-in_default c = rw (← c.in_default.ensures, c.code.ensures, c.in_default.is) (cc)
