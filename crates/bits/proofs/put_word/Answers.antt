-- Eight stores.
use mathlib.Core.Path.{◌≡◌, refl, ◌∙◌}
use Prim.Native.Nat.{suc, ◌+◌}
use native.Mathlib.Omega.{arith}
use lib.Seq.{sets-eq}
use Rattle.std.specs.Int.{w64, to_le_bytes}
use Rattle.bits.proofs.Pack.{swapped_bytes}
use Rattle.bits.proofs.put_word.Goals as goal

pub returns : goal.returns
returns c =
    let a = c.args in
    let at = a.at in
    let i1 : at + 1 ≡ suc at = omega arith in
    let i2 : at + 2 ≡ suc (suc at) = omega arith in
    let i3 : at + 3 ≡ suc (suc (suc at)) = omega arith in
    let i4 : at + 4 ≡ suc (suc (suc (suc at))) = omega arith in
    let i5 : at + 5 ≡ suc (suc (suc (suc (suc at)))) = omega arith in
    let i6 : at + 6 ≡ suc (suc (suc (suc (suc (suc at))))) = omega arith in
    let i7 : at + 7 ≡ suc (suc (suc (suc (suc (suc (suc at)))))) = omega arith in
    rw (c.to_le_bytes-word.ensures, i1, i2, i3, i4, i5, i6, i7) (sets-eq (to_le_bytes w64 c.swap_bytes.result) a.bytes.now at (omega arith) ∙ rw (swapped_bytes _ _ c.swap_bytes.ensures) refl)
