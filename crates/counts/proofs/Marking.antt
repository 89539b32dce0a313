-- The marks of a stage: moves, and the action behind them if there is one. Where they stand in a mark area, they follow what is in front.
use mathlib.Core.Path.{◌≡◌, refl, ap, ◌∙◌}
use mathlib.Core.Bool.{Bool, true, false}
use mathlib.Core.List.{List, [], ◌∷◌, ◌++◌, append-nil}
use mir.Val.{bool_byte}
use Prim.Native.Nat.{ℕ, suc, ◌+◌, ◌-◌, ◌<◌, ◌≤◌}
use native.Mathlib.Omega.{arith}
use borrow.Rule.Slice.PartMut.{put_mid}
use lib.ListN.{length, get_or, set, take, drop, replicate, length-append, length-drop, length-replicate, drop_of_length-le}
use lib.Seq.{drop-cons, set_at, length-take-le}
use Rattle.std.proofs.lemmas.Slice.{take-put_mid}
use Rattle.counts.specs.Marks.{marks_for}

-- ones in the front of d up to place m, which is the end, or the place before it where an action is the last step
module _ (d ones : List ℕ) (m : ℕ) (a : Bool) (em : m ≡ length d - bool_byte a) (e : ones ≡ replicate (length (take m d)) 1) where
  ones_are : ones ≡ replicate m 1
  ones_are = e ∙ ap (λ (n : ℕ). replicate n 1) (length-take-le m d (omega arith))

  pub marked_moves : a ≡ false → ones ++ drop m d ≡ marks_for a (length d)
  unfolding marks_for
  marked_moves q =
      let z : length d ≡ m = omega (arith, rw q at em) in
      let rest : drop m d ≡ [] = drop_of_length-le d (omega arith) in
      rw (q, z, rest, append-nil ones) ones_are

  pub marked_action : a ≡ true → 0 < length d → set (ones ++ drop m d) m 0 ≡ marks_for a (length d)
  unfolding marks_for
  marked_action q h =
      let z : length d ≡ m + 1 = omega (arith, rw q at em) in
      let n : length d - 1 ≡ m = omega arith in
      let front : length ones ≡ m = ap length ones_are ∙ length-replicate {A = ℕ} m 1 in
      let short : length d ≤ suc m = omega arith in
      let none : drop (suc m) d ≡ [] = drop_of_length-le d short in
      let rest : drop m d ≡ get_or d m 0 ∷ [] = drop-cons d m 0 (omega arith) ∙ ap (λ (l : List ℕ). get_or d m 0 ∷ l) none in
      rw (q, n, rest) (set_at ones (get_or d m 0) [] 0 m front ∙ ap (λ (l : List ℕ). l ++ (0 ∷ [])) ones_are)

-- as many marks as steps
marks_length : (a : Bool) (n : ℕ) → (a ≡ true → 0 < n) → length (marks_for a n) ≡ n
unfolding marks_for
marks_length true n h = omega (arith, h refl, length-append (replicate {A = ℕ} (n - 1) 1) (0 ∷ []), length-replicate {A = ℕ} (n - 1) 1)
marks_length false n h = length-replicate {A = ℕ} n 1

-- the part of the area d from place k up to place `to`, and the marks ms written there
module _ (d ms : List ℕ) (k to : ℕ) (h : k ≤ to) (b : to ≤ length d) where
  pub part_length : length (take (to - k) (drop k d)) ≡ to - k
  part_length = length-take-le (to - k) (drop k d) (omega (arith, length-drop k d))

  pub area_kept : length ms ≡ length (take (to - k) (drop k d)) → length (put_mid k (to - k) d ms) ≡ length d
  area_kept e = simp (length-append, length-drop) (omega (arith, e, part_length, length-take-le k d (omega arith)))

  pub marks_front : (a : Bool) → (a ≡ true → k < to) → ms ≡ marks_for a (length (take (to - k) (drop k d))) → take to (put_mid k (to - k) d ms) ≡ take k d ++ marks_for a (to - k)
  marks_front a f e =
      let whole : ms ≡ marks_for a (to - k) = e ∙ ap (marks_for a) part_length in
      let n : length ms ≡ to - k = ap length whole ∙ marks_length a (to - k) (λ q. omega (arith, f q)) in
      take-put_mid k (to - k) d ms to (omega arith) (omega arith) ∙ ap (λ (l : List ℕ). take k d ++ l) whole
