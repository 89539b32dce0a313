use native.Mathlib.Omega.{arith}
use Rattle.sets.proofs.Loading.{starting_start, starting_turn, starting_end}
use Rattle.state.proofs.Relaxed.initial.Goals as goal

pub loop-v-init : goal.loop-v-init
loop-v-init c = starting_start _ _ c.requires.formed c.variables-n.ensures

pub loop-v-preserved : goal.loop-v-preserved
loop-v-preserved c = starting_turn _ _ _ _ c.loop-v.invariant (omega arith) _ _ c.initial.ensures c.single.ensures

pub returns : goal.returns
returns c = starting_end _ _ _ _ c.loop-v.invariant (omega arith)
