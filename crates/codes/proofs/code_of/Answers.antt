use native.Mathlib.Omega.{arith}
use Rattle.planning.specs.Basics.{code}
use Rattle.codes.proofs.code_of.Goals as goal

pub returns : goal.returns
unfolding code
returns c = omega arith
