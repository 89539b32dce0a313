use mathlib.Core.Path.{refl}
use Rattle.planning.specs.Basics.{code}
use Rattle.codes.proofs.code.Goals as goal

pub returns-in_default : goal.returns-in_default
unfolding code
returns-in_default g c = rw c.in_default.is refl

pub returns : goal.returns
unfolding code
returns g c = rw (c.in-Err.is, ← c.from.ensures) c.code_of.ensures
