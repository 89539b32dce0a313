-- The digits that `io` finds are those of the definition, and how many there are.
use Prim.Native.Nat.{ℕ, zero, suc, ◌+◌, ◌-◌, ◌*◌, ◌/◌, ◌%◌, ◌^◌, ◌≤◌, ◌<◌}
use mathlib.Core.Path.{◌≡◌, refl, ap, ◌∙◌, subst}
use mathlib.Core.List.{[], ◌∷◌, ◌++◌}
use native.Mathlib.Omega.{arith}
use native.Mathlib.Decide.{dec_le}
use native.Mathlib.Nat.{pow-suc, pow-le-pow_right, mod-eq_of_lt}
use borrow.Author.Tests.{lt-ltb, le-ltb}
use Rattle.io.specs.Digits.{hex_digit_ascii, last_digits, IsDigitCount}
use Rattle.planning.specs.Listing.{digits_upto, decimal}

-- a number below 10 ^ d has at most d digits
pub digits_few : (d n k : ℕ) → 1 ≤ d → n < 10 ^ d → IsDigitCount 10 1 n k → k ≤ d
digits_few d n k m h F = go (dec_le k d)
  where
    go : Dec (k ≤ d) → k ≤ d
    go (yes l) = l
    go (no l) = let z : 10 ^ d ≤ 10 ^ (k - 1) = pow-le-pow_right (omega arith) {i = d} {j = k - 1} (omega arith) in absurd (omega (arith, z, F.2 (omega arith)))

glyph_digit : (d : ℕ) → d < 10 → hex_digit_ascii d ≡ 48 + d
glyph_digit d h = rw (lt-ltb d 10 h) refl

-- f is more than n, so there are enough
fewest_upto : (f k n : ℕ) → n < f → IsDigitCount 10 1 n k → last_digits 10 k n ≡ digits_upto f n
unfolding digits_upto
fewest_upto zero k n l F = absurd (omega arith)
fewest_upto (suc f) zero n l F = absurd (omega (arith, F.0))
fewest_upto (suc f) (suc zero) n l F =
    let h : n < 10 = omega (arith, F.1) in
    rw (lt-ltb n 10 h, digits_upto) (ap (λ x. x ∷ []) (glyph_digit (n % 10) (omega arith) ∙ ap (λ x. 48 + x) (mod-eq_of_lt h)))
fewest_upto (suc f) (suc (suc j)) n l F =
    let a : 10 ^ suc j ≤ n = subst (λ x. 10 ^ x ≤ n) {x = suc (suc j) - 1} {y = suc j} (omega arith) (F.2 (omega arith)) in
    let b : 10 ^ suc j ≡ 10 ^ j * 10 = pow-suc 10 j in
    let z : 10 ^ suc (suc j) ≡ 10 ^ suc j * 10 = pow-suc 10 (suc j) in
    let o : 10 ^ 0 ≤ 10 ^ j = pow-le-pow_right (omega arith) {i = 0} {j = j} (omega arith) in
    let h : 10 ≤ n = omega arith in
    let G : IsDigitCount 10 1 (n / 10) (suc j) = (omega arith, omega (arith, F.1), λ _. subst (λ x. 10 ^ x ≤ n / 10) {x = j} {y = suc j - 1} (omega arith) (omega arith)) in
    rw (le-ltb n 10 h, digits_upto)
    (ap (λ x. x ++ (hex_digit_ascii (n % 10) ∷ [])) (fewest_upto f (suc j) (n / 10) (omega arith) G) ∙ ap (λ x. digits_upto f (n / 10) ++ (x ∷ [])) (glyph_digit (n % 10) (omega arith)))

pub decimal_of : (n k : ℕ) → IsDigitCount 10 1 n k → last_digits 10 k n ≡ decimal n
unfolding decimal
decimal_of n k F = fewest_upto (suc n) k n (omega arith) F
