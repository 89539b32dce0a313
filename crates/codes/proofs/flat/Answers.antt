use Rattle.planning.specs.Basics.{code}
use Rattle.codes.proofs.flat.Goals as goal

pub returns-in_default : goal.returns-in_default
unfolding code
returns-in_default c = rw (c.code.ensures, c.in_default.is) (cc)
