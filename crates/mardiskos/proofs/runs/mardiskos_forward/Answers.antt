use Rattle.planning.specs.Basics.{code}
use Rattle.mardiskos.proofs.runs.mardiskos_forward.Goals as goal

pub returns-in_default : goal.returns-in_default
unfolding code
returns-in_default c = let z = c.in_default.ensures in (rw (← z.0, c.code.ensures, c.in_default.is) (cc), z.1)
