-- Reading steps into a list and marks into an area: what has been written in front, and what is left.
use mathlib.Core.List.{List, [], ◌∷◌, ◌++◌, append_assoc, append-nil}
use mathlib.Core.Path.{◌≡◌, refl, sym, ◌∙◌}
use Prim.Native.Nat.{ℕ, zero, suc, ◌+◌, ◌-◌, ◌*◌, ◌/◌, ◌%◌, ◌^◌, ◌<◌, ◌≤◌}
use native.Mathlib.Nat.{zero-add, suc-add}
use native.Mathlib.Numerals.{add-one}
use native.Mathlib.Omega.{arith}
use lib.ListN.{length, take, drop, set, length-set, length-append}
use lib.Seq.{take-suc-set, length-take-le, take_at, sets-eq}
use Rattle.planning.specs.Basics.{bits_at}
use Rattle.planning.specs.Sheet.{bits_of, packed}
use Rattle.laws.proofs.Fields.{bits_at_below}
use Rattle.bits.proofs.Pack.{bytes_of}
use Rattle.bits.proofs.Window.{bits_at_cut}
use Rattle.lists.specs.Four.{Spread, with_four}
use Rattle.sheet.proofs.Rows.{row, step_at, mark_at, length_row}

row_add : (f : ℕ → ℕ) (d p n m : ℕ) → row f d p (n + m) ≡ row f d p n ++ row f d (p + d * n) m
unfolding row
row_add f d p zero m = let e : p + d * 0 ≡ p = omega arith in rw (zero-add, e) refl
row_add f d p (suc n) m =
    let e : p + d * suc n ≡ p + d + d * n = omega arith in
    rw (suc-add, e, row_add f d (p + d) n m) refl

-- the whole is what stands in front of the list and the numbers that are left
pub record Copying (f : ℕ → ℕ) (d n : ℕ) (whole xs₀ xs : List ℕ) (i : ℕ) : Type 0 where
  pub within : i ≤ n
  pub room : n ≤ length xs₀
  pub long : length xs ≡ length xs₀
  pub so_far : whole ≡ take i xs ++ row f d (53 + d * i) (n - i)

module _ (f : ℕ → ℕ) (d n : ℕ) where
  module _ (whole xs₀ xs : List ℕ) (i : ℕ) (g : Copying f d n whole xs₀ xs i) where
    pub copying_one : (v : ℕ) → i < n → v ≡ f (53 + d * i) → Copying f d n whole xs₀ (set xs i v) (i + 1)
    unfolding row
    copying_one v h e =
        let k : n - i ≡ suc (n - (i + 1)) = omega arith in
        let p : 53 + d * (i + 1) ≡ 53 + d * i + d = omega arith in
        let l : i < length xs = omega (arith, g.long, g.room) in
        record {
          within = omega arith;
          room = g.room;
          long = length-set xs i v ∙ g.long;
          so_far = g.so_far ∙ rw (k, p, ← e, add-one i, take-suc-set xs i v l, append_assoc) refl;
        }

    -- m numbers at once
    pub copying_more : (m : ℕ) (ys : List ℕ) → i + m ≤ n → length ys ≡ length xs
        → ys ≡ take i xs ++ row f d (53 + d * i) m ++ drop (i + m) xs → Copying f d n whole xs₀ ys (i + m)
    copying_more m ys h l w =
        let k : n - i ≡ m + (n - (i + m)) = omega arith in
        let p : 53 + d * i + d * m ≡ 53 + d * (i + m) = omega arith in
        let front = take i xs ++ row f d (53 + d * i) m in
        let z : length front ≡ i + m = rw (length-append, length_row, length-take-le i xs (omega (arith, g.long, g.room))) refl in
        record {
          within = h;
          room = g.room;
          long = l ∙ g.long;
          so_far = g.so_far ∙ rw (k, row_add f d (53 + d * i) m (n - (i + m)), p, w, take_at front (drop (i + m) xs) (i + m) z, append_assoc) refl;
        }

    pub copying_end : n ≤ i → take n xs ≡ whole
    unfolding row
    copying_end h =
        let e : i ≡ n = omega (arith, g.within) in
        let k : n - n ≡ 0 = omega arith in
        sym (g.so_far ∙ rw (e, k, append-nil) refl)

-- a field of m bits at p, cut out of a run of bits that goes on for c bits behind it
cut_at : (s : List ℕ) (q n r p m c : ℕ) → r ≡ bits_at s q n → q + n ≡ p + m + c → q ≤ p → r / 2 ^ c % 2 ^ m ≡ bits_at s p m
cut_at s q n r p m c e k h =
    let o : n ≡ p - q + m + c = omega arith in
    let z : q + (p - q) ≡ p = omega arith in
    rw (e, o, bits_at_cut s q (p - q) m c, z) refl

-- Four entries, the first at p, out of a run of bits that ends behind them.
module _ (s : List ℕ) (w q n r p : ℕ) (e : r ≡ bits_at s q n) (k : q + n ≡ p + 4 * (w + 10)) (h : q ≤ p) where
  row_four : row (step_at s w) (w + 10) p 4 ≡ r / 2 ^ (3 * (w + 10)) % 1024 ∷ r / 2 ^ (2 * (w + 10)) % 1024 ∷ r / 2 ^ (w + 10) % 1024 ∷ r % 1024 ∷ []
  unfolding row
  row_four =
      let z : r / 2 ^ 0 ≡ r = omega arith in
      rw (
        ← cut_at s q n r (p + w) 10 (3 * (w + 10)) e (omega arith) (omega arith),
        ← cut_at s q n r (p + (w + 10) + w) 10 (2 * (w + 10)) e (omega arith) (omega arith),
        ← cut_at s q n r (p + (w + 10) + (w + 10) + w) 10 (w + 10) e (omega arith) (omega arith),
        ← cut_at s q n r (p + (w + 10) + (w + 10) + (w + 10) + w) 10 0 e (omega arith) (omega arith),
        z,
      ) refl

  -- stored one behind the other
  pub four_stored : (xs : List ℕ) (i x : ℕ) → i + 4 ≤ length xs
      → Spread (r / 2 ^ (3 * (w + 10)) % 1024) (r / 2 ^ (2 * (w + 10)) % 1024) (r / 2 ^ (w + 10) % 1024) (r % 1024) x
      → with_four xs i x ≡ take i xs ++ row (step_at s w) (w + 10) p 4 ++ drop (i + 4) xs
  four_stored xs i x l t =
      let i1 : i + 1 ≡ suc i = omega arith in
      let i2 : i + 2 ≡ suc (suc i) = omega arith in
      let i3 : i + 3 ≡ suc (suc (suc i)) = omega arith in
      rw (t.0, t.1, t.2, t.3, row_four, i1, i2, i3)
      (sets-eq (r / 2 ^ (3 * (w + 10)) % 1024 ∷ r / 2 ^ (2 * (w + 10)) % 1024 ∷ r / 2 ^ (w + 10) % 1024 ∷ r % 1024 ∷ []) xs i l)

-- The marks of four entries of 11 bits, the first at p, out of a run of bits that ends behind them.
module _ (s : List ℕ) (q n r p : ℕ) (e : r ≡ bits_at s q n) (k : q + n ≡ p + 44) (h : q ≤ p) where
  marks_four : (a : ℕ) → a ≡ r / 8796093022208 % 2 * 16777216 + r / 4294967296 % 2 * 65536 + r / 2097152 % 2 * 256 + r / 1024 % 2
      → a ≡ mark_at s 1 p * 16777216 + mark_at s 1 (p + 11) * 65536 + mark_at s 1 (p + 22) * 256 + mark_at s 1 (p + 33)
  marks_four a g =
      g
      ∙ rw (
        ← cut_at s q n r p 1 43 e (omega arith) (omega arith),
        ← cut_at s q n r (p + 11) 1 32 e (omega arith) (omega arith),
        ← cut_at s q n r (p + 22) 1 21 e (omega arith) (omega arith),
        ← cut_at s q n r (p + 33) 1 10 e (omega arith) (omega arith),
      ) refl

-- eight numbers below 256, a byte each
eight_bytes : (a b c d x y z u v : ℕ) → a < 256 → b < 256 → c < 256 → d < 256 → x < 256 → y < 256 → z < 256 → u < 256
    → v ≡ (a * 16777216 + b * 65536 + c * 256 + d) * 4294967296 + (x * 16777216 + y * 65536 + z * 256 + u) → packed 8 (bits_of 64 v) ≡ a ∷ b ∷ c ∷ d ∷ x ∷ y ∷ z ∷ u ∷ []
eight_bytes a b c d x y z u v ha hb hc hd hx hy hz hu e =
    let p : v / 2 ^ 56 % 256 ≡ a = omega arith in
    let q : v / 2 ^ 48 % 256 ≡ b = omega arith in
    let r : v / 2 ^ 40 % 256 ≡ c = omega arith in
    let s : v / 2 ^ 32 % 256 ≡ d = omega arith in
    let t : v / 2 ^ 24 % 256 ≡ x = omega arith in
    let i : v / 2 ^ 16 % 256 ≡ y = omega arith in
    let j : v / 2 ^ 8 % 256 ≡ z = omega arith in
    let k : v / 2 ^ 0 % 256 ≡ u = omega arith in
    rw (bytes_of v, p, q, r, s, t, i, j, k) refl

row_eight : (f : ℕ → ℕ) (p : ℕ) → row f 11 p 8 ≡ f p ∷ f (p + 11) ∷ f (p + 22) ∷ f (p + 33) ∷ f (p + 44) ∷ f (p + 44 + 11) ∷ f (p + 44 + 22) ∷ f (p + 44 + 33) ∷ []
unfolding row
row_eight f p =
    let a : p + 11 + 11 ≡ p + 22 = omega arith in
    let b : p + 22 + 11 ≡ p + 33 = omega arith in
    let c : p + 33 + 11 ≡ p + 44 = omega arith in
    let d : p + 44 + 11 + 11 ≡ p + 44 + 22 = omega arith in
    let e : p + 44 + 22 + 11 ≡ p + 44 + 33 = omega arith in
    rw (a, b, c, d, e) refl

-- Eight marks, a byte each, out of two runs of bits that end behind the first four and behind the others.
pub eight_marks : (s : List ℕ) (p q n r a q' n' r' b v : ℕ) → r ≡ bits_at s q n → q + n ≡ p + 44 → q ≤ p → r' ≡ bits_at s q' n' → q' + n' ≡ p + 88 → q' ≤ p + 44
    → a ≡ r / 8796093022208 % 2 * 16777216 + r / 4294967296 % 2 * 65536 + r / 2097152 % 2 * 256 + r / 1024 % 2
    → b ≡ r' / 8796093022208 % 2 * 16777216 + r' / 4294967296 % 2 * 65536 + r' / 2097152 % 2 * 256 + r' / 1024 % 2
    → v ≡ a * 4294967296 + b → packed 8 (bits_of 64 v) ≡ row (mark_at s 1) 11 p 8
eight_marks s p q n r a q' n' r' b v e k h e' k' h' ea eb ev =
    let bit : (x : ℕ) → mark_at s 1 x < 256 = λ x. omega (arith, bits_at_below s x 1) in
    rw (row_eight (mark_at s 1) p)
    (eight_bytes _ _ _ _ _ _ _ _ v (bit p) (bit (p + 11)) (bit (p + 22)) (bit (p + 33)) (bit (p + 44)) (bit (p + 44 + 11)) (bit (p + 44 + 22)) (bit (p + 44 + 33))
    (ev ∙ rw (marks_four s q n r p e k h a ea, marks_four s q' n' r' (p + 44) e' (omega arith) h' b eb) refl))
