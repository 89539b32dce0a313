-- Membership by binary digits: one value, union, intersection and
-- difference, an effect.
use mathlib.Core.Path.{◌≡◌, refl}
use mathlib.Core.Bool.{Bool, true, false, not, ◌&&◌, ◌||◌}
use Prim.Native.Nat.{ℕ, zero, suc, ◌/◌, ◌%◌, ◌^◌, ◌<◌}
use native.Mathlib.Nat.{pow-suc, div-eq_of_lt}
use native.Mathlib.Numerals.{one-add}
use native.Mathlib.Omega.{arith}
use lib.Bits.{bit_and, bit_or, bit_xor, or_shr, or_mod, and_shr, and_mod, xor_shr, xor_mod}
use lib.Dec.{eqb, eqb-zero-suc, eqb-suc-zero, eqb-suc-suc}
use lib.Pow.{pow_pos, shr-shr}
use Rattle.sets.specs.Sets.{in_set}

half_pow : (y x : ℕ) → 2 ^ suc y / 2 ^ suc x ≡ 2 ^ y / 2 ^ x
half_pow y x =
    let e : 2 ^ suc y / 2 ^ 1 ≡ 2 ^ y = rw pow-suc (omega arith) in
    rw (← one-add x, ← shr-shr (2 ^ suc y) 1 x, e) refl

pub in_set_single : (y x : ℕ) → in_set (2 ^ y) x ≡ eqb x y
unfolding in_set
in_set_single zero zero = refl
in_set_single zero (suc x) =
    let l : 1 < 2 ^ suc x = rw pow-suc (omega (arith, pow_pos x)) in
    rw (div-eq_of_lt l, eqb-suc-zero x) refl
in_set_single (suc y) zero =
    let e : 2 ^ suc y / 2 ^ 0 % 2 ≡ 0 = rw pow-suc (omega arith) in
    rw (e, eqb-zero-suc y) refl
in_set_single (suc y) (suc x) = rw (half_pow y x, eqb-suc-suc x y) (in_set_single y x)

-- the lowest digit, and the others
pub in_set_zero : (m : ℕ) → in_set m 0 ≡ eqb (m % 2) 1
unfolding in_set
in_set_zero m = let e : m / 2 ^ 0 ≡ m = omega arith in rw e refl

pub in_set_half : (m x : ℕ) → in_set m (suc x) ≡ in_set (m / 2) x
unfolding in_set
in_set_half m x = rw (← one-add x, ← shr-shr m 1 x) refl

pub in_set_empty : (x : ℕ) → in_set 0 x ≡ false
unfolding in_set
in_set_empty x = rw (div-eq_of_lt (pow_pos x)) refl

-- an operation on numbers digit by digit is one on sets value by value
digitwise : (f : ℕ → ℕ → ℕ) (g : Bool → Bool → Bool) → eqb (f 0 0) 1 ≡ g false false → eqb (f 0 1) 1 ≡ g false true → eqb (f 1 0) 1 ≡ g true false → eqb (f 1 1) 1 ≡ g true true
    → (a b : ℕ) → a < 2 → b < 2 → eqb (f a b) 1 ≡ g (eqb a 1) (eqb b 1)
digitwise f g p q r s zero zero h k = p
digitwise f g p q r s zero (suc zero) h k = q
digitwise f g p q r s (suc zero) zero h k = r
digitwise f g p q r s (suc zero) (suc zero) h k = s
digitwise f g p q r s (suc (suc a)) b h k = absurd (omega arith)
digitwise f g p q r s zero (suc (suc b)) h k = absurd (omega arith)
digitwise f g p q r s (suc zero) (suc (suc b)) h k = absurd (omega arith)

pub in_set_or : (m n x : ℕ) → in_set (bit_or m n) x ≡ (in_set m x || in_set n x)
unfolding in_set
in_set_or m n x =
    rw (or_shr m n x, or_mod (m / 2 ^ x) (n / 2 ^ x) 1)
    (digitwise bit_or (λ a b. a || b) refl refl refl refl (m / 2 ^ x % 2) (n / 2 ^ x % 2) (omega arith) (omega arith))

pub in_set_and : (m n x : ℕ) → in_set (bit_and m n) x ≡ (in_set m x && in_set n x)
unfolding in_set
in_set_and m n x =
    rw (and_shr m n x, and_mod (m / 2 ^ x) (n / 2 ^ x) 1)
    (digitwise bit_and (λ a b. a && b) refl refl refl refl (m / 2 ^ x % 2) (n / 2 ^ x % 2) (omega arith) (omega arith))

abbrev pub xor : Bool → Bool → Bool
xor true b = not b
xor false b = b

pub in_set_xor : (m n x : ℕ) → in_set (bit_xor m n) x ≡ xor (in_set m x) (in_set n x)
unfolding in_set
in_set_xor m n x =
    rw (xor_shr m n x, xor_mod (m / 2 ^ x) (n / 2 ^ x) 1)
    (digitwise bit_xor xor refl refl refl refl (m / 2 ^ x % 2) (n / 2 ^ x % 2) (omega arith) (omega arith))

-- after an effect that sets y
pub in_set_added : (m y x : ℕ) → in_set (bit_or m (2 ^ y)) x ≡ (in_set m x || eqb x y)
in_set_added m y x = rw (in_set_or m (2 ^ y) x, in_set_single y x) refl
