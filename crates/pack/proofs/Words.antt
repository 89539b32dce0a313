-- A number left aligned in a word, and the bits of two numbers as those of one.
use mathlib.Core.List.{◌++◌, append_assoc}
use mathlib.Core.Path.{◌≡◌, refl, sym, ap, ◌∙◌}
use Prim.Native.Nat.{ℕ, zero, suc, ◌+◌, ◌-◌, ◌*◌, ◌/◌, ◌%◌, ◌^◌, ◌<◌, ◌≤◌}
use native.Mathlib.Nat.{div-add-mod'}
use native.Mathlib.Omega.{arith}
use lib.Pow.{pow_pos}
use Rattle.planning.specs.Sheet.{bits_of}
use Rattle.bits.proofs.Pack.{bits_of_add, bits_of_low}

-- the low bits of a number are those of its remainder
pub low_bits : (m v : ℕ) → bits_of m (v % 2 ^ m) ≡ bits_of m v
low_bits m v = sym (ap (bits_of m) (sym (div-add-mod' v (2 ^ m))) ∙ bits_of_low m (v / 2 ^ m) (v % 2 ^ m))

-- a number left aligned in a word
pub word_bits : (n m v r : ℕ) → n + m ≡ 64 → r ≡ v * 2 ^ m → bits_of 64 r ≡ bits_of n v ++ bits_of m 0
word_bits n m v r h e =
    let z : r ≡ v * 2 ^ m + 0 = e ∙ omega arith in
    ap (λ (k : ℕ). bits_of k r) (sym h) ∙ rw z (bits_of_add n m v 0 (pow_pos m))

-- a number in front of m bits, of which the low n count
cut_above : (n m a b : ℕ) → b < 2 ^ m → bits_of (n + m) (a % 2 ^ n * 2 ^ m + b) ≡ bits_of (n + m) (a * 2 ^ m + b)
cut_above n m a b h = rw (bits_of_add n m (a % 2 ^ n) b h, bits_of_add n m a b h, low_bits n a) refl

-- Both words, with marks of no bit and of one.
pub first_fits : (w : ℕ) → w ≤ 1 → (b a : ℕ) → b < 32 → a < 2 ^ (4 * (w + 10)) → b * 2 ^ (4 * (w + 10)) % 2 ^ 64 + a < 2 ^ 64
first_fits zero h b a l m = omega arith
first_fits (suc zero) h b a l m = omega arith
first_fits (suc (suc w)) h b a l m = absurd (omega arith)

pub first_bits : (w : ℕ) → w ≤ 1 → (b a : ℕ) → b < 32 → a < 2 ^ (4 * (w + 10))
    → bits_of 64 ((b * 2 ^ (4 * (w + 10)) % 2 ^ 64 + a) * 2 ^ (19 - 4 * w) % 2 ^ 64) ≡ bits_of (5 + 4 * (w + 10)) (b * 2 ^ (4 * (w + 10)) + a) ++ bits_of (19 - 4 * w) 0
first_bits zero h b a l m = word_bits 45 19 (b * 2 ^ 40 + a) _ refl (omega arith)
first_bits (suc zero) h b a l m = word_bits 49 15 (b * 2 ^ 44 + a) _ refl (omega arith)
first_bits (suc (suc w)) h b a l m = absurd (omega arith)

pub second_fits : (w : ℕ) → w ≤ 1 → (a b : ℕ) → b < 2 ^ (4 * (w + 10)) → a * 2 ^ (43 + 4 * w) % 2 ^ 64 + b * 8 < 2 ^ 64
second_fits zero h a b l = omega arith
second_fits (suc zero) h a b l = omega arith
second_fits (suc (suc w)) h a b l = absurd (omega arith)

pub second_bits : (w : ℕ) → w ≤ 1 → (a b : ℕ) → b < 2 ^ (4 * (w + 10))
    → bits_of 64 (a * 2 ^ (43 + 4 * w) % 2 ^ 64 + b * 8) ≡ bits_of 61 (a * 2 ^ (4 * (w + 10)) + b) ++ bits_of 3 0
second_bits zero h a b l = word_bits 61 3 (a % 2 ^ 21 * 2 ^ 40 + b) _ refl (omega arith) ∙ rw (cut_above 21 40 a b l) refl
second_bits (suc zero) h a b l = word_bits 61 3 (a % 2 ^ 17 * 2 ^ 44 + b) _ refl (omega arith) ∙ rw (cut_above 17 44 a b l) refl
second_bits (suc (suc w)) h a b l = absurd (omega arith)

-- the 53 bits before the steps as one number
pub front_bits : (w r n c : ℕ) → w ≤ 1 → r < 2 → n < 65536 → c < 4294967296
    → bits_of 53 ((((w + 1) * 2 + r) * 65536 + n) * 4294967296 + c) ≡ bits_of 4 (suc w) ++ (bits_of 1 r ++ (bits_of 16 n ++ bits_of 32 c))
front_bits w r n c h hr hn hc =
    let e : w + 1 ≡ suc w = omega arith in
    bits_of_add 21 32 (((w + 1) * 2 + r) * 65536 + n) c hc
    ∙ rw (bits_of_add 5 16 ((w + 1) * 2 + r) n hn, bits_of_add 4 1 (w + 1) r hr, e, append_assoc, append_assoc) refl
