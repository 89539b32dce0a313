-- Sets of variables: a variable taken out.
use mathlib.Core.Path.{◌≡◌, refl}
use mathlib.Core.Bool.{Bool, true, false, not, ◌&&◌, ◌||◌}
use Prim.Native.Nat.{ℕ, ◌^◌}
use lib.Bits.{bit_or, bit_xor}
use lib.Dec.{eqb}
use Rattle.sets.specs.Sets.{in_set}
use Rattle.sets.proofs.Members.{in_set_single, in_set_or, in_set_xor, xor}

without : (a e : Bool) → xor (a || e) e ≡ (not e && a)
without true true = refl
without true false = refl
without false true = refl
without false false = refl

-- the set m without y
pub in_set_without : (m y x : ℕ) → in_set (bit_xor (bit_or m (2 ^ y)) (2 ^ y)) x ≡ (not (eqb x y) && in_set m x)
in_set_without m y x = rw (in_set_xor (bit_or m (2 ^ y)) (2 ^ y) x, in_set_or m (2 ^ y) x, in_set_single y x) (without (in_set m x) (eqb x y))
