use native.Mathlib.Omega.{arith}
use Rattle.sets.proofs.Loading.{over_start}
use Rattle.state.proofs.Renewing.{placing_start, placing_end}
use Rattle.state.proofs.Newest.initial.Goals as goal

pub loop-v-init : goal.loop-v-init
loop-v-init c = (over_start _ _ c.requires.formed c.variables-n.ensures, placing_start _)

pub returns : goal.returns
returns c = let I = c.loop-v.invariant in placing_end _ _ _ _ I.0 I.1 (omega arith)
