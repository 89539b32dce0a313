-- The facts of an action in the loaded task, by where they stand.
use mathlib.Core.Path.{◌≡◌, sym, ap, subst}
use mathlib.Core.List.{List, ◌∷◌}
use Prim.Native.Nat.{ℕ, zero, suc, ◌+◌, ◌-◌, ◌/◌, ◌<◌, ◌≤◌}
use native.Mathlib.Nat.{add-zero}
use native.Mathlib.Omega.{arith}
use native.Mathlib.Decide.{dec_lt}
use lib.ListN.{length, get_or}
use Rattle.planning.specs.Record.{Action}
use Rattle.planning.specs.Runs.{variables, actions, count, act}
use Rattle.laws.proofs.Formed.{Sorted}
use Rattle.task.specs.Task.{fact_of, facts_in, pre_at, eff_at, end_at, action_in, task_in, Loaded}
use Rattle.task.proofs.Reading.{task_in_act}
use Rattle.sets.proofs.Effects.{facts_in_cons}

-- each of the facts from place a up to b, if they are sorted
module _ (n : ℕ) (count : ℕ → ℕ) (table : List ℕ) (b : ℕ) (e : b ≤ length table) where
  sorted_inside : (m a low : ℕ) → a + m < b → Sorted n count low (facts_in table a b) → get_or table (a + m) 0 / 64 < n
  unfolding fact_of
  sorted_inside zero a low l S =
      let C : Sorted n count low (fact_of (get_or table a 0) ∷ facts_in table (a + 1) b) = rw (facts_in_cons table a b (omega arith) e) at S in
      rw add-zero C.1
  sorted_inside (suc m) a low l S =
      let C : Sorted n count low (fact_of (get_or table a 0) ∷ facts_in table (a + 1) b) = rw (facts_in_cons table a b (omega arith) e) at S in
      subst (λ x. get_or table x 0 / 64 < n) (omega arith) (sorted_inside m (a + 1) (get_or table a 0 / 64 + 1) (omega arith) C.3)

  pub between_inside : (a k : ℕ) → a ≤ k → k < b → Sorted n count 0 (facts_in table a b) → get_or table k 0 / 64 < n
  between_inside a k l m S = subst (λ x. get_or table x 0 / 64 < n) (omega arith) (sorted_inside (k - a) a 0 (omega arith) S)

module _ (task : List ℕ) (L : Loaded task) (i : ℕ) (b : i < actions (task_in task)) where
  pub pre_facts : facts_in task (pre_at task i) (eff_at task i) ≡ (act (task_in task) i).pre
  unfolding action_in
  pre_facts = sym (ap (λ (a : Action). a.pre) (task_in_act task i b))

  pub eff_facts : facts_in task (eff_at task i) (end_at task i) ≡ (act (task_in task) i).eff
  unfolding action_in
  eff_facts = sym (ap (λ (a : Action). a.eff) (task_in_act task i b))

  -- each is a fact of one of the task's variables
  pub pre_inside : (k : ℕ) → pre_at task i ≤ k → k < eff_at task i → get_or task k 0 / 64 < variables (task_in task)
  pre_inside k l h =
      let R = L.rows i b in
      between_inside _ (count (task_in task)) task (eff_at task i) (omega (arith, R.eff_below, R.end_below)) (pre_at task i) k l h (rw pre_facts (L.formed.pre_sorted i))

  pub eff_inside : (k : ℕ) → eff_at task i ≤ k → k < end_at task i → get_or task k 0 / 64 < variables (task_in task)
  eff_inside k l h = between_inside _ (count (task_in task)) task (end_at task i) (L.rows i b).end_below (eff_at task i) k l h (rw eff_facts (L.formed.eff_sorted i))

  pub all_inside : (k : ℕ) → pre_at task i ≤ k → k < end_at task i → get_or task k 0 / 64 < variables (task_in task)
  all_inside k l h = elim (dec_lt k (eff_at task i)) [ yes d ↦ pre_inside k l d | no d ↦ eff_inside k (omega arith) h ]
