-- The steps of a sheet, and its marks: numbers at places that lie as far apart as an entry has bits.
use mathlib.Core.List.{List, [], ◌∷◌, ◌++◌}
use mathlib.Core.Path.{◌≡◌, refl, ap}
use Prim.Native.Nat.{ℕ, zero, suc, ◌+◌, ◌-◌, ◌≤◌}
use native.Mathlib.Omega.{arith}
use lib.ListN.{length, replicate, replicate-append-replicate}
use Rattle.planning.specs.Basics.{bits_at}
use Rattle.planning.specs.Sheet.{steps_at, marks_at}

-- n numbers: that of place p, and each next one d places on
unfoldable pub row : (ℕ → ℕ) → ℕ → ℕ → ℕ → List ℕ
row f d p zero = []
row f d p (suc n) = f p ∷ row f d (p + d) n

-- the number at a place: a step behind its mark of w bits, or the mark
abbrev pub step_at : List ℕ → ℕ → ℕ → ℕ
step_at s w p = bits_at s (p + w) 10

abbrev pub mark_at : List ℕ → ℕ → ℕ → ℕ
mark_at s w p = bits_at s p w

pub steps_at_row : (s : List ℕ) (w p n : ℕ) → steps_at s w p n ≡ row (step_at s w) (w + 10) p n
unfolding steps_at row
steps_at_row s w p zero = refl
steps_at_row s w p (suc n) =
    let e : p + w + 10 ≡ p + (w + 10) = omega arith in
    rw (e, steps_at_row s w (p + (w + 10)) n) refl

pub marks_at_row : (s : List ℕ) (w p n : ℕ) → marks_at s w p n ≡ row (mark_at s w) (w + 10) p n
unfolding marks_at row
marks_at_row s w p zero = refl
marks_at_row s w p (suc n) =
    let e : p + w + 10 ≡ p + (w + 10) = omega arith in
    rw (e, marks_at_row s w (p + (w + 10)) n) refl

pub length_row : (f : ℕ → ℕ) (d p n : ℕ) → length (row f d p n) ≡ n
unfolding row
length_row f d p zero = refl
length_row f d p (suc n) = ap suc (length_row f d (p + d) n)

pub length_steps_at : (s : List ℕ) (w p n : ℕ) → length (steps_at s w p n) ≡ n
length_steps_at s w p n = rw steps_at_row (length_row (step_at s w) (w + 10) p n)

pub length_marks_at : (s : List ℕ) (w p n : ℕ) → length (marks_at s w p n) ≡ n
length_marks_at s w p n = rw marks_at_row (length_row (mark_at s w) (w + 10) p n)

-- a sheet of edition 1 has no marks
pub marks_at_none : (s : List ℕ) (p n : ℕ) → marks_at s 0 p n ≡ replicate n 0
unfolding marks_at bits_at
marks_at_none s p zero = refl
marks_at_none s p (suc n) = ap (λ l. 0 ∷ l) (marks_at_none s (p + 0 + 10) n)

pub marks_cleared : (s : List ℕ) (w p n m : ℕ) → w ≡ 0 → n ≤ m → replicate m 0 ≡ marks_at s w p n ++ replicate (m - n) 0
marks_cleared s w p n m e h =
    let k : n + (m - n) ≡ m = omega arith in
    rw (e, marks_at_none s p n, replicate-append-replicate {A = ℕ} n (m - n) 0, k) refl
