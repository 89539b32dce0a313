-- Which of the checks refuses, from the facts that the code tests.
use mathlib.Core.Bool.{Bool, true, false, ◌&&◌, ◌||◌}
use mathlib.Core.List.{List, [], ◌∷◌, ◌++◌}
use mathlib.Core.Option.{Option, none, some}
use mathlib.Core.Path.{◌≡◌, refl, ◌∙◌}
use Prim.Native.Nat.{ℕ, zero, suc, ◌+◌, ◌-◌, ◌*◌, ◌/◌, ◌%◌, ◌<◌, ◌≤◌, min}
use native.Mathlib.Nat.{div-add-mod', mod-lt, lt_of_mul-lt-mul_left}
use native.Mathlib.Omega.{arith}
use borrow.Author.Tests.{le-leb, lt-leb, leb-true, leb-false, ne_eqb, eqb-true}
use lib.Dec.{leb, eqb}
use lib.ListN.{length}
use Rattle.planning.specs.Basics.{Check, check, refuse, and_then, in_order, refused, done, answer, refuse_at, bits_at, holds_field}
use Rattle.planning.specs.Calls.{Read, length_check, room_check, not_below, capacity, write_call, read_call}
use Rattle.planning.specs.Record.{ends_at}
use Rattle.planning.specs.Sheet.{Sheet, mark_width, sheet_size, sheet_end, sheet_field, steps_checks, sheet_checks, sheet_check, edition_in, steps_in}
use Rattle.laws.proofs.Checks.{and_then_none, check_true}
use Rattle.sheet.specs.Answers.{end_check, heading_of, cut_in}
use Rattle.sheet.proofs.Widths.{mark_width_le}

-- Writing: 13, the length first, then 11.
module _ (x : Sheet) (n : ℕ) where
  pub over_length : 32768 < length x.steps → write_call x n ≡ refused 13 32768
  unfolding write_call length_check answer in_order and_then check
  over_length h = rw (lt-leb (length x.steps) 32768 h) refl

  module _ (short : length x.steps ≤ 32768) where
    pub over_entry : (k p : ℕ) → refuse_at 13 (not_below 1024 0 x.steps) ≡ refuse k p → write_call x n ≡ refused k p
    unfolding write_call length_check answer in_order and_then check
    over_entry k p e = rw (le-leb (length x.steps) 32768 short, e) refl

    pub over_room : not_below 1024 0 x.steps ≡ none → n < sheet_size x.edition (length x.steps) → write_call x n ≡ refused 11 n
    unfolding write_call length_check answer in_order and_then check refuse_at room_check
    over_room e h = rw (le-leb (length x.steps) 32768 short, e, lt-leb (sheet_size x.edition (length x.steps)) n h) refl

    pub writes : not_below 1024 0 x.steps ≡ none → sheet_size x.edition (length x.steps) ≤ n → write_call x n ≡ done (sheet_size x.edition (length x.steps))
    unfolding write_call length_check answer in_order and_then check refuse_at room_check
    writes e h = rw (le-leb (length x.steps) 32768 short, e, le-leb (sheet_size x.edition (length x.steps)) n h) refl

-- what holds of a list that is written
pub record Fitting (x : Sheet) (n k : ℕ) : Type 0 where
  pub short : length x.steps ≤ 32768
  pub below : not_below 1024 0 x.steps ≡ none
  pub room : sheet_size x.edition (length x.steps) ≤ n
  pub size : k ≡ sheet_size x.edition (length x.steps)

three_passed : (b : Bool) (o : Option ℕ) (d : Bool) (n z k : ℕ)
    → answer (and_then (check b 13 32768) (and_then (refuse_at 13 o) (and_then (check d 11 n) none))) z ≡ done k → (b ≡ true) × (o ≡ none) × (d ≡ true) × (k ≡ z)
unfolding answer and_then check refuse_at
three_passed true none true n z k e = (refl, refl, refl, cc)
three_passed true none false n z k e = let u : ◌≡◌ {A = ℕ} 0 1 = cc in absurd (omega arith)
three_passed true (some i) d n z k e = let u : ◌≡◌ {A = ℕ} 0 1 = cc in absurd (omega arith)
three_passed false o d n z k e = let u : ◌≡◌ {A = ℕ} 0 1 = cc in absurd (omega arith)

pub fitting : (x : Sheet) (n k : ℕ) → write_call x n ≡ done k → Fitting x n k
unfolding write_call length_check in_order room_check
fitting x n k e =
    let z = sheet_size x.edition (length x.steps) in
    let g : (leb (length x.steps) 32768 ≡ true) × (not_below 1024 0 x.steps ≡ none) × (leb z n ≡ true) × (k ≡ z) =
    three_passed (leb (length x.steps) 32768) (not_below 1024 0 x.steps) (leb z n) n z k e in
    record { short = leb-true _ _ g.0; below = g.1; room = leb-true _ _ g.2; size = g.3 }

-- Reading: "12 in bit order, then 11". The edition is 1 or 2:
edition_known : (n : ℕ) → 1 ≤ n → n ≤ 2 → (eqb n 1 || eqb n 2) ≡ true
edition_known zero h l = absurd (omega arith)
edition_known (suc zero) h l = refl
edition_known (suc (suc zero)) h l = refl
edition_known (suc (suc (suc n))) h l = absurd (omega arith)

edition_unknown : (n : ℕ) → (1 ≤ n → n ≤ 2 → ⊥) → (eqb n 1 || eqb n 2) ≡ false
edition_unknown zero h = refl
edition_unknown (suc zero) h = absurd (h (omega arith) (omega arith))
edition_unknown (suc (suc zero)) h = absurd (h (omega arith) (omega arith))
edition_unknown (suc (suc (suc n))) h = rw (ne_eqb (suc (suc (suc n))) 1 (λ e. omega arith), ne_eqb (suc (suc (suc n))) 2 (λ e. omega arith)) refl

edition_either : (n : ℕ) → (eqb n 1 || eqb n 2) ≡ true → (1 ≤ n) × (n ≤ 2)
edition_either zero e = let u : ◌≡◌ {A = ℕ} 0 1 = cc in absurd (omega arith)
edition_either (suc zero) e = (omega arith, omega arith)
edition_either (suc (suc zero)) e = (omega arith, omega arith)
edition_either (suc (suc (suc n))) e = let f = edition_unknown (suc (suc (suc n))) (λ h l. omega arith) in let u : ◌≡◌ {A = ℕ} 0 1 = cc in absurd (omega arith)

-- The fields before the steps:
module _ (s : List ℕ) where
  pub cut_before_edition : length s < 1 → sheet_check s ≡ refuse 12 0
  unfolding sheet_check sheet_checks in_order and_then sheet_field holds_field check
  cut_before_edition h = rw (lt-leb 4 (8 * length s) (omega arith)) refl

  module _ (one : 1 ≤ length s) where
    pub wrong_edition : (1 ≤ edition_in s → edition_in s ≤ 2 → ⊥) → sheet_check s ≡ refuse 12 0
    unfolding sheet_check sheet_checks in_order and_then sheet_field holds_field check
    wrong_edition e = rw (le-leb 4 (8 * length s) (omega arith), edition_unknown (edition_in s) e) refl

    module _ (least : 1 ≤ edition_in s) (most : edition_in s ≤ 2) where
      pub cut_before_steps : length s < 3 → sheet_check s ≡ refuse 12 5
      unfolding sheet_check sheet_checks in_order and_then sheet_field holds_field check
      cut_before_steps h =
          rw (le-leb 4 (8 * length s) (omega arith), edition_known (edition_in s) least most, le-leb 5 (8 * length s) (omega arith), lt-leb 21 (8 * length s) (omega arith)) refl

      module _ (three : 3 ≤ length s) where
        -- the checks that are left once the count of steps is there
        counted : sheet_check s ≡ and_then (check (leb (steps_in s) 32768) 12 5) (and_then (sheet_field s 21 32) (end_check s))
        unfolding sheet_check sheet_checks in_order and_then sheet_field holds_field check end_check
        counted =
            rw (le-leb 4 (8 * length s) (omega arith), edition_known (edition_in s) least most, le-leb 5 (8 * length s) (omega arith), le-leb 21 (8 * length s) (omega arith)) refl

        pub too_many_steps : 32768 < steps_in s → sheet_check s ≡ refuse 12 5
        unfolding and_then check
        too_many_steps h = rw (counted, lt-leb (steps_in s) 32768 h) refl

        pub cut_before_cost : steps_in s ≤ 32768 → length s < 7 → sheet_check s ≡ refuse 12 21
        unfolding and_then sheet_field holds_field check
        cut_before_cost h l = rw (counted, le-leb (steps_in s) 32768 h, lt-leb 53 (8 * length s) (omega arith)) refl

        pub front_passed : steps_in s ≤ 32768 → 7 ≤ length s → sheet_check s ≡ end_check s
        unfolding and_then sheet_field holds_field check
        front_passed h l = rw (counted, le-leb (steps_in s) 32768 h, le-leb 53 (8 * length s) (omega arith)) refl

-- The marks and the steps: all are there, or the first that is cut short refuses.
pub steps_held : (s : List ℕ) (w p n : ℕ) (cs : List Check) → p + (w + 10) * n ≤ 8 * length s → in_order (steps_checks s w p n ++ cs) ≡ in_order cs
unfolding in_order and_then steps_checks sheet_field holds_field check
steps_held s w p zero cs h = refl
steps_held s w p (suc n) cs h =
    rw (le-leb (p + w) (8 * length s) (omega arith), le-leb (p + w + 10) (8 * length s) (omega arith)) (steps_held s w (p + w + 10) n cs (omega arith))

-- k steps are there whole, and of the next one the mark or the step is cut
steps_cut : (s : List ℕ) (w k p n : ℕ) (cs : List Check) → w ≤ 1 → k < n → p + (w + 10) * k ≤ 8 * length s → 8 * length s < p + (w + 10) * suc k
    → in_order (steps_checks s w p n ++ cs) ≡ refuse 12 (p + (w + 10) * k + min w (8 * length s - (p + (w + 10) * k)))
unfolding in_order and_then steps_checks sheet_field holds_field check
steps_cut s w k p zero cs h l a b = absurd (omega arith)
steps_cut s w (suc k) p (suc n) cs h l a b =
    let e : p + w + 10 + (w + 10) * k ≡ p + (w + 10) * suc k = omega arith in
    rw (le-leb (p + w) (8 * length s) (omega arith), le-leb (p + w + 10) (8 * length s) (omega arith), ← e)
    (steps_cut s w k (p + w + 10) n cs h (omega arith) (omega arith) (omega arith))
steps_cut s w zero p (suc n) cs h l a b = go (leb (p + w) (8 * length s)) refl
  where
    go : (c : Bool) → leb (p + w) (8 * length s) ≡ c
        → in_order (steps_checks s w p (suc n) ++ cs) ≡ refuse 12 (p + (w + 10) * 0 + min w (8 * length s - (p + (w + 10) * 0)))
    go true e =
        let f : p + w ≤ 8 * length s = leb-true (p + w) (8 * length s) e in
        let k : p + w ≡ p + (w + 10) * 0 + min w (8 * length s - (p + (w + 10) * 0)) = omega arith in
        rw (e, lt-leb (p + w + 10) (8 * length s) (omega arith), ← k) refl
    go false e =
        let f : 8 * length s < p + w = leb-false (p + w) (8 * length s) e in
        let k : p ≡ p + (w + 10) * 0 + min w (8 * length s - (p + (w + 10) * 0)) = omega arith in
        rw (e, ← k) refl

module _ (s : List ℕ) (h : sheet_end (edition_in s) (steps_in s) ≤ 8 * length s) where
  pub end_fails : ends_at s (sheet_end (edition_in s) (steps_in s)) ≡ false → end_check s ≡ refuse 12 (sheet_end (edition_in s) (steps_in s))
  unfolding end_check in_order and_then check sheet_end
  end_fails e = steps_held s (mark_width (edition_in s)) 53 (steps_in s) _ h ∙ rw e refl

  pub end_passes : ends_at s (sheet_end (edition_in s) (steps_in s)) ≡ true → end_check s ≡ none
  unfolding end_check in_order and_then check sheet_end
  end_passes e = steps_held s (mark_width (edition_in s)) 53 (steps_in s) _ h ∙ rw e refl

pub end_cut : (s : List ℕ) → 7 ≤ length s → 8 * length s < sheet_end (edition_in s) (steps_in s) → end_check s ≡ refuse 12 (cut_in (mark_width (edition_in s)) (8 * length s))
unfolding end_check sheet_end cut_in
end_cut s l h =
    let w = mark_width (edition_in s) in
    let n = 8 * length s - 53 in
    let k = n / (w + 10) in
    let d : k * (w + 10) + n % (w + 10) ≡ n = div-add-mod' n (w + 10) in
    let m : n % (w + 10) < w + 10 = mod-lt n (omega arith) in
    let few : k < steps_in s = lt_of_mul-lt-mul_left (w + 10) (omega (arith, d, m)) in
    let e : n % (w + 10) ≡ 8 * length s - (53 + (w + 10) * k) = omega (arith, d) in
    let c : (w + 10) * k ≡ k * (w + 10) = omega arith in
    steps_cut s w k 53 (steps_in s) _ (mark_width_le (edition_in s)) few (omega (arith, d)) (omega (arith, d, m)) ∙ rw (e, c) refl

-- What a check's outcome makes of an answer, and back.
module _ {A : Type 0} (a : A) where
  pub refuses : (k : Check) (n p : ℕ) → k ≡ refuse n p → answer k a ≡ refused n p
  unfolding answer
  refuses k n p e = rw e refl

  pub passes : (k : Check) → k ≡ none → answer k a ≡ done a
  unfolding answer
  passes k e = rw e refl

  pub refused_first : (k d : Check) (b : A) (n p : ℕ) → answer k a ≡ refused n p → answer (and_then k d) b ≡ refused n p
  unfolding answer and_then
  refused_first none d b n p e = let u : ◌≡◌ {A = ℕ} 0 1 = cc in absurd (omega arith)
  refused_first (some f) d b n p e = e

-- what holds of a sheet that is accepted
pub record Accepted (s : List ℕ) : Type 0 where
  pub least : 1 ≤ edition_in s
  pub most : edition_in s ≤ 2
  pub few : steps_in s ≤ 32768
  pub ends : length s ≡ (sheet_end (edition_in s) (steps_in s) + 7) / 8
  pub padding : bits_at s (sheet_end (edition_in s) (steps_in s)) (8 * length s - sheet_end (edition_in s) (steps_in s)) ≡ 0

head_none : (k : Check) (ks : List Check) → in_order (k ∷ ks) ≡ none → k ≡ none
unfolding in_order
head_none k ks e = (and_then_none k (in_order ks) e).0

tail_none : (k : Check) (ks : List Check) → in_order (k ∷ ks) ≡ none → in_order ks ≡ none
unfolding in_order
tail_none k ks e = (and_then_none k (in_order ks) e).1

rest_none : (ks ls : List Check) → in_order (ks ++ ls) ≡ none → in_order ls ≡ none
rest_none [] ls e = e
rest_none (k ∷ ks) ls e = rest_none ks ls (tail_none k (ks ++ ls) e)

both : (a b : Bool) → (a && b) ≡ true → (a ≡ true) × (b ≡ true)
both true b e = (refl, e)
both false b e = let u : ◌≡◌ {A = ℕ} 0 1 = cc in absurd (omega arith)

pub accepted : (s : List ℕ) → sheet_check s ≡ none → Accepted s
unfolding sheet_check sheet_checks ends_at
accepted s e =
    let c1 = tail_none _ _ e in
    let c2 = tail_none _ _ c1 in
    let c4 = tail_none _ _ (tail_none _ _ c2) in
    let c6 = tail_none _ _ (tail_none _ _ c4) in
    let c7 = rest_none (steps_checks s (mark_width (edition_in s)) 53 (steps_in s)) _ c6 in
    let z = sheet_end (edition_in s) (steps_in s) in
    let g : (eqb (length s) ((z + 7) / 8) ≡ true) × (eqb (bits_at s z (8 * length s - z)) 0 ≡ true) =
    both _ _ (check_true _ _ _ (head_none _ [] c7)) in
    let d = edition_either (edition_in s) (check_true _ _ _ (head_none _ _ c1)) in
    record {
      least = d.0;
      most = d.1;
      few = leb-true _ _ (check_true _ _ _ (head_none _ _ c4));
      ends = eqb-true _ _ g.0;
      padding = eqb-true _ _ g.1;
    }

module _ (s : List ℕ) (n m : ℕ) where
  pub read_refused : (k p : ℕ) → answer (sheet_check s) (heading_of s) ≡ refused k p → read_call s n m ≡ refused k p
  unfolding read_call in_order
  read_refused k p e = refused_first (heading_of s) (sheet_check s) _ _ k p e

  pub over_list : sheet_check s ≡ none → steps_in s ≤ 32768 → min n m < steps_in s → read_call s n m ≡ refused 11 (min n m)
  unfolding read_call in_order answer and_then room_check check capacity
  over_list e f h =
      let k : min (min n m) 32768 ≡ min n m = omega arith in
      rw (e, k, lt-leb (steps_in s) (min n m) h) refl

  pub reads : sheet_check s ≡ none → steps_in s ≤ 32768 → steps_in s ≤ min n m → read_call s n m ≡ done (heading_of s)
  unfolding read_call in_order answer and_then room_check check capacity heading_of
  reads e f h =
      let k : steps_in s ≤ min (min n m) 32768 = omega arith in
      rw (e, le-leb (steps_in s) (min (min n m) 32768) k) refl

-- what holds of a sheet that is read
pub record Held (s : List ℕ) (n m : ℕ) (h : Read) : Type 0 where
  pub ok : sheet_check s ≡ none
  pub list_room : steps_in s ≤ n
  pub mark_room : steps_in s ≤ m
  pub is : h ≡ heading_of s

two_passed : (k : Check) (b : Bool) (n : ℕ) (z h : Read) → answer (and_then k (and_then (check b 11 n) none)) z ≡ done h → (k ≡ none) × (b ≡ true) × (h ≡ z)
unfolding answer and_then check
two_passed none true n z h e = (refl, refl, cc)
two_passed none false n z h e = let u : ◌≡◌ {A = ℕ} 0 1 = cc in absurd (omega arith)
two_passed (some f) b n z h e = let u : ◌≡◌ {A = ℕ} 0 1 = cc in absurd (omega arith)

pub holding : (s : List ℕ) (n m : ℕ) (h : Read) → read_call s n m ≡ done h → Held s n m h
unfolding read_call in_order room_check capacity heading_of
holding s n m h e =
    let k = min (min n m) 32768 in
    let g : (sheet_check s ≡ none) × (leb (steps_in s) k ≡ true) × (h ≡ heading_of s) = two_passed (sheet_check s) (leb (steps_in s) k) k (heading_of s) h e in
    let l : steps_in s ≤ k = leb-true (steps_in s) k g.1 in
    record { ok = g.0; list_room = omega arith; mark_room = omega arith; is = g.2 }
