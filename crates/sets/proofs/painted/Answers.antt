use Prim.Native.Nat.{◌<◌}
use native.Mathlib.Omega.{arith}
use Rattle.sets.proofs.Loading.{painting_start, painting_black, painting_red, painting_end}
use Rattle.sets.proofs.painted.Goals as goal
use Rattle.sets.proofs.painted.Goals.{else-is_black, then-is_black}

pub loop-v-init : goal.loop-v-init
loop-v-init c = painting_start _ _ c.requires.formed c.variables-n.ensures

pub loop-v-preserved : goal.loop-v-preserved
loop-v-preserved c =
    let p = c.loop-v.invariant in
    let h : c.loop-v.v < c.variables-n.result = omega arith in
    elim c.if-is_black.branch [
      | then-is_black w ↦ rw w.set-is (painting_black _ _ _ _ p h _ _ c.is_black.ensures w.if-is_black.true c.single-own.ensures)
      | else-is_black w ↦ rw w.set-is (painting_red _ _ _ _ p h _ c.is_black.ensures w.if-is_black.false)
    ]

pub returns : goal.returns
returns c = painting_end _ _ _ _ c.loop-v.invariant (omega arith)
