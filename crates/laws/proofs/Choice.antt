-- The choice of the forward run. Where an action adds a fact there is a cheapest one that does: take any, and a cheaper one as long as
-- there is one. So an action is chosen exactly if one adds a fact; which one it is, no law of plans asks.
use Prim.Native.Nat.{ℕ, zero, suc, ◌≤◌, ◌<◌}
use mathlib.Core.Path.{◌≡◌}
use mathlib.Core.Logic.{◌⊎◌, inl, inr}
use mathlib.Core.Bool.{Bool, not, ◌&&◌}
use mathlib.Core.Option.{Option, none, some}
use lib.Dec.{T, T_not, not_T, ltb, ltb→lt, lt→ltb}
use native.Mathlib.Omega.{arith}
use Rattle.planning.specs.Basics.{some_below}
use Rattle.planning.specs.Record.{Action}
use Rattle.planning.specs.Runs.{State}
use Rattle.planning.specs.Relaxed.{adds, cheapest, choice}
use Rattle.laws.proofs.Tests.{and_l, and_r, and_i, T_cases}
use Rattle.laws.proofs.Below.{some_intro, some_elim, First?, first_is, first_some_is, first_none_is}

module _ (act : ℕ → Action) (A : ℕ) (s : State) where
  -- action j adds a fact and costs less than i
  abbrev cheaper : ℕ → ℕ → Bool
  cheaper i j = adds act s j && ltb (act j).cost (act i).cost

  less : (i : ℕ) → T (some_below A (cheaper i)) → (j : ℕ) × (j < A) × T (adds act s j) × ((act j).cost < (act i).cost)
  less i e =
      let r = some_elim A (cheaper i) e in
      let j = r.0 in
      (j, r.1, and_l (adds act s j) (ltb (act j).cost (act i).cost) r.2, ltb→lt (act j).cost (act i).cost (and_r (adds act s j) (ltb (act j).cost (act i).cost) r.2))

  cheapest_adds : (i : ℕ) → T (cheapest act A s i) → T (adds act s i)
  unfolding cheapest
  cheapest_adds i t = search and_l

  cheapest_i : (i : ℕ) → T (adds act s i) → (T (some_below A (cheaper i)) → ⊥) → T (cheapest act A s i)
  unfolding cheapest
  cheapest_i i t n = and_i (adds act s i) (not (some_below A (cheaper i))) t (not_T (some_below A (cheaper i)) n)

  -- a cheapest one, from action i of cost at most c
  some_cheapest : (c i : ℕ) → (act i).cost ≤ c → i < A → T (adds act s i) → (j : ℕ) × (j < A) × T (cheapest act A s j)
  some_cheapest zero i h b t = (i, b, cheapest_i i t (λ e. omega (arith, (less i e).3)))
  some_cheapest (suc c) i h b t = go (T_cases (some_below A (cheaper i))) (some_cheapest c)
    where
      go : T (some_below A (cheaper i)) ⊎ T (not (some_below A (cheaper i))) → ((j : ℕ) → (act j).cost ≤ c → j < A → T (adds act s j) → (k : ℕ) × (k < A) × T (cheapest act A s k))
          → (j : ℕ) × (j < A) × T (cheapest act A s j)
      go (inr n) rec = (i, b, cheapest_i i t (T_not (some_below A (cheaper i)) n))
      go (inl e) rec = let r = less i e in rec r.0 (omega (arith, r.3)) r.1 r.2

  -- an action is chosen exactly if one adds a fact
  abbrev pub Chosen : Option ℕ → Type 0
  Chosen none = (i : ℕ) → i < A → T (adds act s i) → ⊥
  Chosen (some i) = (i < A) × T (adds act s i)

  pub choice_chosen : Chosen (choice act A s)
  choice_chosen = go (choice act A s) (first_is A (cheapest act A s))
    where
      go : (o : Option ℕ) → First? A (cheapest act A s) o → Chosen o
      go none h = λ i b t. let r = some_cheapest (act i).cost i (omega arith) b t in h r.0 r.1 r.2
      go (some i) h = (h.below, cheapest_adds i h.passes)

  -- it is action i, if each that adds a fact costs more, or as much with no lower number
  pub choice_some : (i : ℕ) → i < A → T (adds act s i) → ((j : ℕ) → j < A → T (adds act s j) → ((act i).cost < (act j).cost) ⊎ (((act i).cost ≡ (act j).cost) × (i ≤ j)))
      → choice act A s ≡ some i
  unfolding cheapest
  choice_some i b t h = first_some_is A (cheapest act A s) i (record { below = b; passes = cheapest_i i t none_less; least = lower })
    where
      none_less : T (some_below A (cheaper i)) → ⊥
      none_less e = let r = less i e in elim (h r.0 r.1 r.2) [ inl k ↦ omega (arith, r.3) | inr k ↦ omega (arith, k.0, r.3) ]

      lower : (j : ℕ) → j < i → T (cheapest act A s j) → ⊥
      lower j l c = elim (h j (omega arith) (cheapest_adds j c)) [
        | inl k ↦ T_not (some_below A (cheaper j)) (and_r (adds act s j) (not (some_below A (cheaper j))) c)
            (some_intro A (cheaper j) i b (and_i (adds act s i) (ltb (act i).cost (act j).cost) t (lt→ltb (act i).cost (act j).cost k)))
        | inr k ↦ omega (arith, k.1)
      ]

  pub choice_none : ((i : ℕ) → i < A → T (adds act s i) → ⊥) → choice act A s ≡ none
  choice_none h = first_none_is A (cheapest act A s) (λ i b c. h i b (cheapest_adds i c))
