-- The search for the lowest entry that is not below a bound: one turn, its end, and what a search without a find tells.
use mathlib.Core.Bool.{Bool, true, false, cond}
use mathlib.Core.List.{List, [], ◌∷◌}
use mathlib.Core.Option.{Option, none, some}
use mathlib.Core.Path.{◌≡◌, refl, sym, ap, ◌∙◌}
use Prim.Native.Nat.{ℕ, zero, suc, ◌+◌, ◌<◌, ◌≤◌}
use native.Mathlib.Numerals.{add-one}
use native.Mathlib.Omega.{arith}
use borrow.Author.Tests.{lt-ltb, le-ltb, ltb-true, ltb-false}
use lib.Dec.{ltb}
use lib.ListN.{length, get_or, drop, drop_of_length-le}
use lib.Seq.{drop-cons}
use Rattle.std.specs.Prelude.{Some, None, Option as Found}
use Rattle.std.specs.List.{position_from}
use Rattle.planning.specs.Calls.{not_below}

not_below_nil : (n k : ℕ) → not_below n k [] ≡ none
unfolding not_below
not_below_nil n k = refl

picked : ℕ → ℕ → List ℕ → Bool → Option ℕ
picked n k l b = elim b [ true ↦ not_below n (suc k) l | false ↦ some k ]

not_below_cons : (n k x : ℕ) (l : List ℕ) (b : Bool) → ltb x n ≡ b → not_below n k (x ∷ l) ≡ picked n k l b
unfolding not_below picked
not_below_cons n k x l b e = ap (picked n k l) e

-- the search of the code finds the same
found : Found ℕ → Option ℕ
found None = none
found (Some i) = some i

abbrev over : ℕ → Bool
over x = ltb 1023 x

found_is : (k : ℕ) (l : List ℕ) → found (position_from over k l) ≡ not_below 1024 k l
unfolding picked found
found_is k [] = sym (not_below_nil 1024 k)
found_is k (x ∷ l) = go (ltb 1023 x) refl (found_is (k + 1) l)
  where
    go : (b : Bool) → ltb 1023 x ≡ b → found (position_from over (k + 1) l) ≡ not_below 1024 (k + 1) l → found (cond (ltb 1023 x) (Some k) (position_from over (k + 1) l)) ≡ not_below 1024 k (x ∷ l)
    go true e h = rw e (sym (not_below_cons 1024 k x l false (le-ltb x 1024 (ltb-true 1023 x e))))
    go false e h = let n : suc k ≡ k + 1 = omega arith in rw e (h ∙ sym (not_below_cons 1024 k x l true (lt-ltb x 1024 (omega (arith, ltb-false 1023 x e))) ∙ rw n refl))

pub lowest_over : (l : List ℕ) (i : ℕ) → position_from over 0 l ≡ Some i → not_below 1024 0 l ≡ some i
unfolding found
lowest_over l i e = sym (found_is 0 l) ∙ rw e refl

pub none_found : (l : List ℕ) → position_from over 0 l ≡ None → not_below 1024 0 l ≡ none
unfolding found
none_found l e = sym (found_is 0 l) ∙ rw e refl

module _ (n : ℕ) (l : List ℕ) (i : ℕ) where
  pub entry_passes : i < length l → get_or l i 0 < n → not_below n i (drop i l) ≡ not_below n (i + 1) (drop (i + 1) l)
  unfolding picked
  entry_passes h p =
      rw (drop-cons l i 0 h, add-one i) (not_below_cons n i (get_or l i 0) (drop (suc i) l) true (lt-ltb (get_or l i 0) n p))

  pub no_entry_left : length l ≤ i → not_below n i (drop i l) ≡ none
  unfolding not_below
  no_entry_left h = rw (drop_of_length-le l h) refl

-- without a find each entry is below the bound
pub all_below_lem : (n k : ℕ) (l : List ℕ) → 0 < n → not_below n k l ≡ none → (i : ℕ) → get_or l i 0 < n
unfolding picked
all_below_lem n k [] p e i = p
all_below_lem n k (x ∷ l) p e i = go (ltb x n) refl (sym (not_below_cons n k x l (ltb x n) refl) ∙ e) (all_below_lem n (suc k) l p) i
  where
    go : (b : Bool) → ltb x n ≡ b → picked n k l b ≡ none → (not_below n (suc k) l ≡ none → (i : ℕ) → get_or l i 0 < n) → (i : ℕ) → get_or (x ∷ l) i 0 < n
    go true t f r zero = ltb-true x n t
    go true t f r (suc i) = r f i
    go false t f r i = let z : ◌≡◌ {A = ℕ} 0 1 = cc in absurd (omega arith)

-- a list whose entries are below the bound
pub none_over : (n k : ℕ) (l : List ℕ) → ((i : ℕ) → get_or l i 0 < n) → not_below n k l ≡ none
unfolding picked
none_over n k [] h = not_below_nil n k
none_over n k (x ∷ l) h = not_below_cons n k x l true (lt-ltb x n (h 0)) ∙ none_over n (suc k) l (λ i. h (suc i))
