-- Four bytes.
use native.Mathlib.Omega.{arith}
use lib.ListN.{get_or}
use Prim.Native.Nat.{ℕ, ◌+◌, ◌<◌}
use Rattle.bits.proofs.Window.{bits_at_word}
use Rattle.bits.proofs.word.Goals as goal
use mathlib.Core.Path.{refl}

pub returns : goal.returns
returns c =
    let j = c.args.j in
    let s = c.args.bytes.now in
    let b : (k : ℕ) → get_or s k 0 < 256 = λ k. omega (arith, c.type_inv.bytes k) in
    omega (arith, bits_at_word s j _ _ _ _ refl refl refl refl (b j) (b (j + 1)) (b (j + 2)) (b (j + 3)))
