use mathlib.Core.Path.{ap}
use Prim.Native.Nat.{◌+◌, ◌*◌}
use native.Mathlib.Omega.{arith}
use Rattle.achievers.proofs.Achievers.{unsetting_start, unsetting_turn, unsetting_end}
use Rattle.achievers.proofs.unset_initial.Goals as goal

pub loop-v-init : goal.loop-v-init
loop-v-init c = unsetting_start _ _ c.requires.1

pub loop-v-preserved : goal.loop-v-preserved
loop-v-preserved c =
    unsetting_turn _ c.requires.0.formed _ _ c.loop-v.v _ c.loop-v.invariant (omega arith) (ap (λ x. 64 * c.loop-v.v + x) c.initial.ensures)

pub returns : goal.returns
returns c = unsetting_end _ c.requires.0.formed _ _ _ c.loop-v.invariant (omega arith)
