-- The steps that are whole, and the mark of the next where it is there.
use Prim.Native.Nat.{◌+◌, ◌-◌}
use native.Mathlib.Nat.{div-add-mod'}
use native.Mathlib.Omega.{arith}
use mathlib.Core.Path.{refl}
use Rattle.sheet.specs.Answers.{cut_in}
use Rattle.sheet.proofs.cut_at.Goals as goal

pub returns : goal.returns
unfolding cut_in
returns c =
    let a = c.args in
    (rw c.min.ensures refl, omega (arith, c.min.ensures, div-add-mod' (a.bits - 53) (a.mark + 10)))
