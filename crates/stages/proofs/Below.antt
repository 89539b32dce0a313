-- Entries of the lists that passes build are actions, and their searches few.
use mathlib.Core.Bool.{Bool, true, false, ◌||◌}
use mathlib.Core.List.{List, [], ◌∷◌, ◌++◌}
use mathlib.Core.Option.{Option, none, some}
use Prim.Native.Nat.{ℕ, zero, suc, ◌+◌, ◌-◌, ◌*◌, ◌<◌, ◌≤◌}
use native.Mathlib.Omega.{arith}
use native.Mathlib.Nat.{mul-le-mul_right}
use lib.Dec.{T, eqb}
use lib.ListN.{length, get_or, length-append}
use Rattle.planning.specs.Basics.{first}
use Rattle.planning.specs.Record.{Fact, Action, Task}
use Rattle.planning.specs.Runs.{State, Mode, look, variables, actions, count, act, black, goals}
use Rattle.planning.specs.Repair.{toward, after, pass, fill, ready, clients_first, order, value, black_met}
use Rattle.planning.specs.Painting.{black_arc}
use Rattle.laws.proofs.Tests.{and_l}
use Rattle.laws.proofs.Below.{First?, first_is}
use Rattle.laws.proofs.Steps.{All, all_append}
use Rattle.laws.proofs.Best.{best_below_lem}
use Rattle.laws.proofs.Fill.{fill_searches_lem}
use Rattle.laws.proofs.Formed.{Formed}
use Rattle.laws.proofs.Lists.{all_at}
use Rattle.laws.proofs.Order.{clients_first_le}
use Rattle.entries.specs.Entries.{Entries}
use Rattle.passes.specs.Passes.{pass_of}
use Rattle.paths.specs.Paths.{paths_of}
use Rattle.stages.specs.Stages.{fill_from, filled, moved, stage_of, filled_searches, moved_searches, stage_searches}

pub all_entries : (n : ℕ) (l : List ℕ) → All (λ i. i < n) l → (k : ℕ) → k < length l → get_or l k 0 < n
all_entries n [] a k h = absurd (omega arith)
all_entries n (x ∷ l) a zero h = a.0
all_entries n (x ∷ l) a (suc k) h = all_entries n l a.1 k (omega arith)

pub entries_all : (n : ℕ) (l : List ℕ) → ((k : ℕ) → k < length l → get_or l k 0 < n) → All (λ i. i < n) l
entries_all n [] e = tt
entries_all n (x ∷ l) e = (e 0 (omega arith), entries_all n l (λ k h. e (suc k) (omega arith)))

module _ (A : ℕ) (act : ℕ → Action) (path : ℕ → ℕ → List ℕ) (small : (c d : ℕ) → All (λ i. i < A) (path c d)) where
  toward_below : (c : ℕ) (o : Option ℕ) → All (λ i. i < A) (toward path c o)
  unfolding toward
  toward_below c none = tt
  toward_below c (some d) = small c d

  pass_below : (v c : ℕ) (l : List ℕ) (w : List Fact) → All (λ i. i < A) l → All (λ i. i < A) (pass act path v c l w)
  unfolding pass
  pass_below v c [] w a = toward_below c (look w v)
  pass_below v c (i ∷ l) w a = all_append (λ i. i < A) (toward path c (look (act i).pre v)) (i ∷ pass act path v (after c (look (act i).pre v)) l w) (toward_below c (look (act i).pre v))
      (a.0, pass_below v (after c (look (act i).pre v)) l w a.1)

pub pass_entries : (t : Task) (K : State) (v c : ℕ) (l : List ℕ) (w : List Fact) → Entries t l → Entries t (pass_of t K v c l w)
pass_entries t K v c l w e = all_entries (actions t) (pass_of t K v c l w)
    (pass_below (actions t) (act t) (paths_of t K v) (λ c d. best_below_lem (act t) (actions t) K v d (count t v) c) v c l w (entries_all (actions t) l e))

pub append_entries : (t : Task) (l k : List ℕ) → Entries t l → Entries t k → Entries t (l ++ k)
append_entries t l k a b = all_entries (actions t) (l ++ k) (all_append (λ i. i < actions t) l k (entries_all (actions t) l a) (entries_all (actions t) k b))

-- the variables of the clients-first order are black
order_all : (n : ℕ) (adj : ℕ → ℕ → Bool) (m : Mode) (k : ℕ) (taken : ℕ → Bool) → All (λ v. (v < n) × T (m v)) (clients_first n adj m k taken)
unfolding clients_first ready
order_all n adj m zero taken = tt
order_all n adj m (suc k) taken = go (first n (ready n adj m taken)) (first_is n (ready n adj m taken)) (order_all n adj m k)
  where
    go : (o : Option ℕ) → First? n (ready n adj m taken) o → ((taken : ℕ → Bool) → All (λ v. (v < n) × T (m v)) (clients_first n adj m k taken))
        → All (λ v. (v < n) × T (m v)) (elim o [ none ↦ [] | some v ↦ v ∷ clients_first n adj m k (λ u. eqb u v || taken u) ])
    go none f g = tt
    go (some v) f g = ((f.below, search (and_l)), g (λ u. eqb u v || taken u))

pub order_at : (t : Task) (k : ℕ) → k < length (order t) → (get_or (order t) k 0 < variables t) × T (black t (get_or (order t) k 0))
unfolding order
order_at t k h = all_at (λ v. (v < variables t) × T (black t v)) (order t) (order_all (variables t) _ (black t) (variables t) (λ _. false)) k h

fill_entries : (t : Task) (K s : State) (vs l : List ℕ) (w : List Fact) → Entries t l → Entries t (fill_from t K s vs l w)
unfolding fill
fill_entries t K s [] l w e = e
fill_entries t K s (v ∷ vs) l w e = fill_entries t K s vs (pass_of t K v (value (count t) s v) l w) w (pass_entries t K v (value (count t) s v) l w e)

moved_entries : (t : Task) (K s : State) (w : List Fact) → Entries t (moved t K s w)
unfolding moved filled
moved_entries t K s w = go (black_met (black t) s w)
  where
    go : (m : Bool) → Entries t (elim m [ true ↦ [] | false ↦ filled t K s w ])
    go true = λ k h. absurd (omega arith)
    go false = fill_entries t K s (order t) [] w (λ k h. absurd (omega arith))

-- the steps of a stage
pub stage_entries : (t : Task) (K s : State) (l : List ℕ) → Entries t l → Entries t (stage_of t K s l)
unfolding stage_of
stage_entries t K s [] e = moved_entries t K s (goals t)
stage_entries t K s (i ∷ l) e = append_entries t (moved t K s (act t i).pre) (i ∷ []) (moved_entries t K s (act t i).pre) one
  where
    one : Entries t (i ∷ [])
    one zero h = e 0 (omega arith)
    one (suc k) h = absurd (omega arith)

-- an insertion has at most one search for each variable and place of its list
order_few : (t : Task) → Formed t → length (order t) ≤ 64
unfolding order
order_few t F = omega (arith, clients_first_le (variables t) (black_arc t) (black t) (variables t) (λ _. false), F.variables_max)

moved_searches_lem : (t : Task) → Formed t → (K s : State) (w : List Fact) → moved_searches t K s w ≤ 64 * (length (moved t K s w) + 1)
unfolding moved filled moved_searches filled_searches
moved_searches_lem t F K s w = go (black_met (black t) s w)
  where
    l : List ℕ
    l = fill_from t K s (order t) [] w

    go : (m : Bool) → elim m [ true ↦ 0 | false ↦ filled_searches t K s w ] ≤ 64 * (length {A = ℕ} (elim m [ true ↦ [] | false ↦ filled t K s w ]) + 1)
    go true = omega arith
    go false = omega (arith, fill_searches_lem (act t) (paths_of t K) (value (count t) s) (order t) [] w, mul-le-mul_right (length l + 1) (order_few t F))

pub stage_searches_lem : (t : Task) → Formed t → (K s : State) (l : List ℕ) → stage_searches t K s l ≤ 64 * (length (stage_of t K s l) + (1 - length l))
unfolding stage_of stage_searches
stage_searches_lem t F K s [] = omega (arith, moved_searches_lem t F K s (goals t))
stage_searches_lem t F K s (i ∷ l) = omega (arith, moved_searches_lem t F K s (act t i).pre, length-append (moved t K s (act t i).pre) (i ∷ []))
