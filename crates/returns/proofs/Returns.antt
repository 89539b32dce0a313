-- The return to one fact: some action of its chain needs marked facts alone. The chain rises, and has every action that changes its variable to it.
use mathlib.Core.Path.{◌≡◌, sym, ◌∙◌, subst}
use mathlib.Core.Logic.{◌⊎◌}
use mathlib.Core.Bool.{Bool, true, not}
use mathlib.Core.List.{List}
use Prim.Native.Nat.{ℕ, ◌+◌, ◌*◌, ◌/◌, ◌%◌, ◌<◌, ◌≤◌}
use native.Mathlib.Omega.{arith}
use native.Mathlib.Decide.{dec_lt}
use borrow.Author.Tests.{not-true}
use lib.Dec.{T, eqb}
use Rattle.std.specs.Prelude.{Option, None, Some}
use Rattle.std.specs.Option.{option_eq}
use Rattle.planning.specs.Record.{Task}
use Rattle.planning.specs.Runs.{State, has, look, holds, actions, act}
use Rattle.planning.specs.Painting.{reduced_effects}
use Rattle.laws.proofs.Tests.{T→true, true→T, F→false, false→F, and_l}
use Rattle.laws.proofs.Below.{some_true, some_false}
use Rattle.laws.proofs.Formed.{Formed, eff_func}
use Rattle.laws.proofs.Arcs.{reduced_intro}
use Rattle.task.specs.Task.{task_in}
use Rattle.task.specs.Links.{head_at, Next, Changes}
use Rattle.sets.specs.Sets.{Asked}
use Rattle.sets.proofs.Asking.{asked_has}
use Rattle.returns.specs.Returns.{returns_by, returned, OnChain, FirstFrom, Finds}

-- an action changes v to d where the value that its effects ask of v is d, and it does not need v = d
pub asked_changes : (t : Task) → Formed t → (j v d : ℕ) (x : Option ℕ) → d < 64 → Asked (look (act t j).eff v) x → true ≡ option_eq eqb x (Some d)
    → (b : Bool) → b ≡ has (act t j).pre v d → not b ≡ true → Changes t v d j
asked_changes t F j v d x l q e b n z = reduced_intro (act t j) v d
    (true→T (has (act t j).eff v d) (sym (asked_has (act t j).eff (eff_func t F j) v d x l q) ∙ sym e))
    (false→F (has (act t j).pre v d) (sym n ∙ not-true b z))

-- the chain of v = d, gone through from a up to action j
pub record Chasing (t : Task) (m : State) (v d a j : ℕ) : Type 0 where
  pub valid : (j ≡ 65535) ⊎ ((a ≤ j) × (j < actions t) × Changes t v d j)
  pub passed : (k : ℕ) → a ≤ k → k < actions t → k < j → T (returns_by t m v d k) → ⊥

module _ (task : List ℕ) (f : ℕ) (O : OnChain task f) where
  head_next : Next (actions (task_in task)) (Changes (task_in task) (f / 64) (f % 64)) 0 (head_at task f)
  head_next =
      let q : 64 * (f / 64) + f % 64 ≡ f = omega arith in
      subst (λ (g : ℕ). Next (actions (task_in task)) (Changes (task_in task) (f / 64) (f % 64)) 0 (head_at task g)) q
      (O.chained.heads (f / 64) (f % 64) (omega (arith, O.small)) (omega arith) O.on)

  module _ (m : State) (h : ℕ) where
    -- whether one is found is whether there is one
    pub finds : (j : ℕ) → FirstFrom (λ k. T (returns_by (task_in task) m (f / 64) (f % 64) k)) h (actions (task_in task)) (Some j) → Finds (task_in task) m (f / 64) (f % 64) (Some j)
    unfolding returned
    finds j N = (N.1, N.2, some_true (actions (task_in task)) (returns_by (task_in task) m (f / 64) (f % 64)) j N.1 (T→true (returns_by (task_in task) m (f / 64) (f % 64) j) N.2))

    pub finds_from_head : (r : Option ℕ) → h ≡ head_at task f → FirstFrom (λ k. T (returns_by (task_in task) m (f / 64) (f % 64) k)) h (actions (task_in task)) r → Finds (task_in task) m (f / 64) (f % 64) r
    unfolding returned
    finds_from_head (Some j) e N = finds j N
    finds_from_head None e N =
        some_false (actions (task_in task)) (returns_by (task_in task) m (f / 64) (f % 64)) (λ k b. F→false (returns_by (task_in task) m (f / 64) (f % 64) k) (none_serves k b (dec_lt k h)))
      where
        none_serves : (k : ℕ) → k < actions (task_in task) → Dec (k < h) → T (returns_by (task_in task) m (f / 64) (f % 64) k) → ⊥
        none_serves k b (yes l) r =
            head_next.least k (omega arith) b (omega arith) (and_l (has (reduced_effects (act (task_in task) k)) (f / 64) (f % 64)) (holds m (act (task_in task) k).pre) r)
        none_serves k b (no l) r = N k (omega arith) b r
