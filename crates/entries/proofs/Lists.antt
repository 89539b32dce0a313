-- The entries of a list: all below A, or the lowest that is not.
use mathlib.Core.Path.{◌≡◌, refl, sym, ap, ◌∙◌}
use mathlib.Core.Bool.{true}
use mathlib.Core.List.{List, [], ◌∷◌}
use mathlib.Core.Option.{none, some}
use Prim.Native.Nat.{ℕ, zero, suc, ◌+◌, ◌<◌, ◌≤◌}
use native.Mathlib.Numerals.{add-one}
use native.Mathlib.Omega.{arith}
use native.Mathlib.Decide.{dec_lt}
use borrow.Author.Tests.{lt-ltb, le-ltb, lt-leb, le-leb}
use lib.Dec.{leb→le}
use lib.ListN.{length, get_or, take, drop, drop_of_length-le}
use lib.Seq.{drop-cons}
use Rattle.planning.specs.Basics.{Check, done, refused, answer, in_order, and_then, check, refuse_at}
use Rattle.planning.specs.Runs.{all_below, actions}
use Rattle.planning.specs.Record.{Task}
use Rattle.planning.specs.Calls.{not_below, length_check, entries_check}
use Rattle.laws.proofs.Checks.{refuse_at_none, and_then_last, check_none, in_order_passed}
use Rattle.entries.specs.Entries.{Entries, list_check, leading}

not_below_cons : (n k i : ℕ) (l : List ℕ) → i < n → not_below n k (i ∷ l) ≡ not_below n (suc k) l
unfolding not_below
not_below_cons n k i l h = rw (not_below, lt-ltb i n h) refl

not_below_stop : (n k i : ℕ) (l : List ℕ) → n ≤ i → not_below n k (i ∷ l) ≡ some k
unfolding not_below
not_below_stop n k i l h = rw (not_below, le-ltb i n h) refl

not_below_all : (n k : ℕ) (l : List ℕ) → not_below n k l ≡ none → (j : ℕ) → j < length l → get_or l j 0 < n
not_below_all n k [] e j h = absurd (omega arith)
not_below_all n k (i ∷ l) e j h = go (dec_lt i n) (λ c. not_below_all n (suc k) l (sym (not_below_cons n k i l c) ∙ e)) j h
  where
    go : Dec (i < n) → (i < n → (j : ℕ) → j < length l → get_or l j 0 < n) → (j : ℕ) → j < length (i ∷ l) → get_or (i ∷ l) j 0 < n
    go (yes c) more zero h = c
    go (yes c) more (suc j) h = more c j (omega arith)
    go (no c) more j h =
        let x : some k ≡ none = sym (not_below_stop n k i l (omega arith)) ∙ e in
        let z : ◌≡◌ {A = ℕ} 0 1 = cc in
        absurd (omega arith)

pub entries_below : (t : Task) (l : List ℕ) → entries_check t l ≡ none → (j : ℕ) → j < length l → get_or l j 0 < actions t
unfolding entries_check
entries_below t l e = not_below_all (actions t) 0 l (refuse_at_none 9 (not_below (actions t) 0 l) e)

pub all_below_of : (n : ℕ) (l : List ℕ) → ((j : ℕ) → j < length l → get_or l j 0 < n) → all_below n l ≡ true
unfolding all_below
all_below_of n [] h = refl
all_below_of n (i ∷ l) h = rw (lt-ltb i n (h 0 (omega arith)), all_below_of n l (λ j b. h (suc j) (omega arith))) refl

-- the entries before the first that is not below n
pub leading_cons : (n i : ℕ) (l : List ℕ) → i < n → leading n (i ∷ l) ≡ suc (leading n l)
unfolding leading
leading_cons n i l h = rw (leading, lt-ltb i n h) refl

pub leading_none : (n i : ℕ) (l : List ℕ) → n ≤ i → leading n (i ∷ l) ≡ 0
unfolding leading
leading_none n i l h = rw (leading, le-ltb i n h) refl

-- the loop over them, at k
module _ (n : ℕ) (l : List ℕ) (k : ℕ) (e : leading n l ≡ k + leading n (drop k l)) where
  pub leading_turn : k < length l → get_or l k 0 < n → leading n l ≡ (k + 1) + leading n (drop (k + 1) l)
  leading_turn h b = e ∙ rw (drop-cons l k 0 h, leading_cons n (get_or l k 0) (drop (suc k) l) b, add-one) (omega arith)

  pub leading_stop : k < length l → n ≤ get_or l k 0 → k ≡ leading n l
  leading_stop h b = sym (e ∙ rw (drop-cons l k 0 h, leading_none n (get_or l k 0) (drop (suc k) l) b) (omega arith))

  pub leading_end : length l ≤ k → k ≡ leading n l
  unfolding leading
  leading_end h = sym (e ∙ rw (drop_of_length-le l {i = k} h) (omega arith))

-- they are all entries or the first of the others is the fault
not_below_none : (n k : ℕ) (l : List ℕ) → leading n l ≡ length l → not_below n k l ≡ none
unfolding not_below
not_below_none n k [] e = refl
not_below_none n k (i ∷ l) e = go (dec_lt i n) (λ q. not_below_none n (suc k) l q)
  where
    go : Dec (i < n) → (leading n l ≡ length l → not_below n (suc k) l ≡ none) → not_below n k (i ∷ l) ≡ none
    go (yes c) more = not_below_cons n k i l c ∙ more (omega (arith, e, leading_cons n i l c))
    go (no c) more = absurd (omega (arith, e, leading_none n i l (omega arith)))

not_below_some : (n k : ℕ) (l : List ℕ) → leading n l < length l → not_below n k l ≡ some (k + leading n l)
not_below_some n k [] h = absurd (omega arith)
not_below_some n k (i ∷ l) h = go (dec_lt i n) (λ q. not_below_some n (suc k) l q)
  where
    go : Dec (i < n) → (leading n l < length l → not_below n (suc k) l ≡ some (suc k + leading n l)) → not_below n k (i ∷ l) ≡ some (k + leading n (i ∷ l))
    go (yes c) more = not_below_cons n k i l c ∙ more (omega (arith, h, leading_cons n i l c)) ∙ ap some (rw (leading_cons n i l c) (omega arith))
    go (no c) more = not_below_stop n k i l (omega arith) ∙ ap some (rw (leading_none n i l (omega arith)) (omega arith))

pub leading_below : (n k : ℕ) (l : List ℕ) → not_below n k (take (leading n l) l) ≡ none
unfolding not_below leading
leading_below n k [] = refl
leading_below n k (i ∷ l) = go (dec_lt i n) (leading_below n (suc k) l)
  where
    go : Dec (i < n) → not_below n (suc k) (take (leading n l) l) ≡ none → not_below n k (take (leading n (i ∷ l)) (i ∷ l)) ≡ none
    go (yes c) more = rw (leading_cons n i l c) (not_below_cons n k i (take (leading n l) l) c ∙ more)
    go (no c) more = rw (leading_none n i l (omega arith)) refl

-- the list on its own
pub long_refused : (c : Check) (l : List ℕ) → 32768 < length l → refused 13 32768 ≡ answer (in_order (length_check l ∷ c ∷ [])) (length l)
unfolding length_check answer in_order and_then check
long_refused c l h = rw (lt-leb (length l) 32768 h) refl

pub short_checked : (c : Check) (l : List ℕ) → length l ≤ 32768 → in_order (length_check l ∷ c ∷ []) ≡ c
unfolding length_check in_order and_then check
short_checked c l h = rw (le-leb (length l) 32768 h) (and_then_last c)

module _ (t : Task) (l : List ℕ) (n : ℕ) (s : length l ≤ 32768) (e : n ≡ leading (actions t) l) where
  pub list_refused : n < length l → refused 9 n ≡ answer (in_order (length_check l ∷ entries_check t l ∷ [])) (length l)
  unfolding entries_check answer refuse_at
  list_refused h = rw (short_checked (entries_check t l) l s, not_below_some (actions t) 0 l (omega (arith, e))) (ap (refused 9) (omega (arith, e)))

  pub list_passed : length l ≤ n → n ≤ length l → done n ≡ answer (in_order (length_check l ∷ entries_check t l ∷ [])) (length l)
  unfolding entries_check answer refuse_at
  list_passed h b = rw (short_checked (entries_check t l) l s, not_below_none (actions t) 0 l (omega (arith, e))) (ap done (omega arith))

-- a list that passed
pub list_ready : (t : Task) (l : List ℕ) → list_check t l ≡ none → (length l ≤ 32768) × Entries t l
unfolding length_check
list_ready t l h =
    let P = in_order_passed (length_check l ∷ entries_check t l ∷ []) h in
    (leb→le (length l) 32768 (check_none _ 13 32768 P.0), entries_below t l P.1.0)
