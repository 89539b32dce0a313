-- Fields of bits cut out of a word, moved apart or together.
use mathlib.Core.List.{List}
use mathlib.Core.Path.{◌≡◌, refl, sym, ap, ◌∙◌}
use Prim.Native.Nat.{ℕ, zero, suc, ◌+◌, ◌*◌, ◌/◌, ◌%◌, ◌^◌, ◌<◌, ◌≤◌}
use native.Mathlib.Omega.{arith}
use lib.Pow.{high, shr-shr}
use Rattle.planning.specs.Basics.{bits_at}
use Rattle.laws.proofs.Fields.{bits_at_below}
use Rattle.bits.proofs.Window.{bits_at_add, four_bits}

-- the front of a run of bits
pub bits_front : (s : List ℕ) (q n r m c : ℕ) → r ≡ bits_at s q n → n ≡ m + c → r / 2 ^ c ≡ bits_at s q m
bits_front s q n r m c e k = rw (e, k, bits_at_add s q m c) (high (bits_at s q m) c (bits_at_below s (q + m) c))

-- Four bits that lie eleven places apart, moved by one product to lie eight apart.
pub bits_moved : (a b c d : ℕ) → a < 2 → b < 2 → c < 2 → d < 2
    → let m = (a * 8589934592 + b * 4194304 + c * 2048 + d) * 585 in
    m / 8589934592 % 2 * 16777216 + m / 33554432 % 2 * 65536 + m / 131072 % 2 * 256 + m / 512 % 2 ≡ a * 16777216 + b * 65536 + c * 256 + d
bits_moved = four_bits _ _ tt

-- Two halves of 32 bits, and fields of ten bits in them, at k places up.
module _ (hi lo p : ℕ) (h : hi < 4294967296) (e : p ≡ hi + lo * 4294967296) where
  upper : p / 4294967296 ≡ lo
  upper = omega arith

  low_ten : p % 1024 ≡ hi % 1024
  low_ten = omega arith

  low_plain : p / 1024 % 1024 ≡ hi / 1024 % 1024
  low_plain = let q : p / 1024 ≡ hi / 1024 + lo * 4194304 = omega arith in rw q (omega arith)

  low_marked : p / 2048 % 1024 ≡ hi / 2048 % 1024
  low_marked = let q : p / 2048 ≡ hi / 2048 + lo * 2097152 = omega arith in rw q (omega arith)

half_ten : (f : ℕ) → f % 4294967296 % 1024 ≡ f % 1024
half_ten f = omega arith

half_plain : (f : ℕ) → f % 4294967296 / 1024 % 1024 ≡ f / 1024 % 1024
half_plain f = let q : f / 1024 ≡ f % 4294967296 / 1024 + f / 4294967296 * 4194304 = omega arith in rw q (omega arith)

half_marked : (f : ℕ) → f % 4294967296 / 2048 % 1024 ≡ f / 2048 % 1024
half_marked f = let q : f / 2048 ≡ f % 4294967296 / 2048 + f / 4294967296 * 2097152 = omega arith in rw q (omega arith)

-- Four numbers by pairs: those in the upper half of f below those in its lower half.
module _ (f : ℕ) (h : f < 562949953421312) where
  pub pairs_plain : let p = f / 1048576 + f % 4294967296 * 4294967296 in
      (p / 1024 % 1024 ≡ f / 1073741824 % 1024) × (p % 1024 ≡ f / 1048576 % 1024) × (p / 4398046511104 % 1024 ≡ f / 1024 % 1024) × (p / 4294967296 % 1024 ≡ f % 1024)
  pairs_plain =
      let p = f / 1048576 + f % 4294967296 * 4294967296 in
      let b : f / 1048576 < 4294967296 = omega arith in
      let u : p / 4294967296 ≡ f % 4294967296 = upper _ _ p b refl in (
        low_plain _ _ p b refl ∙ ap (λ (n : ℕ). n % 1024) (shr-shr f 20 10),
        low_ten _ _ p b refl,
        ap (λ (n : ℕ). n % 1024) (sym (shr-shr p 32 10) ∙ ap (λ (n : ℕ). n / 1024) u) ∙ half_plain f,
        ap (λ (n : ℕ). n % 1024) u ∙ half_ten f,
      )

  pub pairs_marked : let p = f / 4194304 + f % 4294967296 * 4294967296 in
      (p / 2048 % 1024 ≡ f / 8589934592 % 1024) × (p % 1024 ≡ f / 4194304 % 1024) × (p / 8796093022208 % 1024 ≡ f / 2048 % 1024) × (p / 4294967296 % 1024 ≡ f % 1024)
  pairs_marked =
      let p = f / 4194304 + f % 4294967296 * 4294967296 in
      let b : f / 4194304 < 4294967296 = omega arith in
      let u : p / 4294967296 ≡ f % 4294967296 = upper _ _ p b refl in (
        low_marked _ _ p b refl ∙ ap (λ (n : ℕ). n % 1024) (shr-shr f 22 11),
        low_ten _ _ p b refl,
        ap (λ (n : ℕ). n % 1024) (sym (shr-shr p 32 11) ∙ ap (λ (n : ℕ). n / 2048) u) ∙ half_marked f,
        ap (λ (n : ℕ). n % 1024) u ∙ half_ten f,
      )

-- for either width of a mark
pub pairs_are : (w : ℕ) → w ≤ 1 → (f : ℕ) → f < 562949953421312 → let p = f / 2 ^ (2 * (w + 10)) + f % 4294967296 * 4294967296 in
    (p < 2 ^ 64) × (p / 2 ^ (w + 10) % 1024 ≡ f / 2 ^ (3 * (w + 10)) % 1024) × (p % 1024 ≡ f / 2 ^ (2 * (w + 10)) % 1024) × (p / 2 ^ (w + 42) % 1024 ≡ f / 2 ^ (w + 10) % 1024) × (p / 4294967296 % 1024 ≡ f % 1024)
pairs_are zero h f l = let p = pairs_plain f l in (omega arith, p.0, p.1, p.2, p.3)
pairs_are (suc zero) h f l = let p = pairs_marked f l in (omega arith, p.0, p.1, p.2, p.3)
pairs_are (suc (suc w)) h f l = absurd (omega arith)
