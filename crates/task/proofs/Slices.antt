-- The facts of an action as a slice of the loaded task.
use mathlib.Core.Path.{◌≡◌, sym, ap, ◌∙◌}
use mathlib.Core.List.{List, [], ◌∷◌, map}
use Prim.Native.Nat.{ℕ, zero, suc, ◌+◌, ◌-◌, ◌/◌, ◌<◌, ◌≤◌}
use native.Mathlib.Omega.{arith}
use lib.ListN.{length, get_or, take, drop}
use Rattle.std.proofs.lemmas.List.{drop-take}
use Rattle.planning.specs.Record.{Action, Fact}
use Rattle.planning.specs.Runs.{variables, actions, count, act}
use Rattle.laws.proofs.Formed.{Sorted}
use Rattle.task.specs.Task.{fact_of, facts_of, facts_in, pre_at, eff_at, end_at, action_in, task_in, Loaded, States}
use Rattle.task.proofs.Reading.{task_in_act}

-- the facts of a sorted list are of variables below n
pub sorted_inside : (n : ℕ) (count : ℕ → ℕ) (l : List ℕ) (low : ℕ) → Sorted n count low (facts_of l) → (k : ℕ) → k < length l → get_or l k 0 / 64 < n
unfolding facts_of fact_of
sorted_inside n count [] low S k h = absurd (omega arith)
sorted_inside n count (x ∷ l) low S zero h = S.1
sorted_inside n count (x ∷ l) low S (suc k) h = sorted_inside n count l (x / 64 + 1) S.3 k (omega arith)

-- the numbers from place a up to place b
pub part_facts : (task : List ℕ) (a b : ℕ) → a ≤ b → facts_of (take (b - a) (drop a task)) ≡ facts_in task a b
unfolding facts_of facts_in
part_facts task a b h =
    let e : b ≡ a + (b - a) = omega arith in
    sym (ap (λ (x : ℕ). map fact_of (drop a (take x task))) e ∙ ap (map fact_of) (drop-take a (b - a) task))

module _ (task : List ℕ) (L : Loaded task) (i : ℕ) (h : i < actions (task_in task)) where
  part_states : (a b : ℕ) (fs : List Fact) → a ≤ b → facts_in task a b ≡ fs → Sorted (variables (task_in task)) (count (task_in task)) 0 fs → States (take (b - a) (drop a task)) fs
  part_states a b fs l e S =
      let s : facts_of (take (b - a) (drop a task)) ≡ fs = part_facts task a b l ∙ e in
      record {
        stated = s;
        small = λ k q. omega (arith, sorted_inside (variables (task_in task)) (count (task_in task)) (take (b - a) (drop a task)) 0 (rw s S) k q, L.formed.variables_max);
      }

  pub states_pre : (a b : ℕ) → a ≡ pre_at task i → b ≡ eff_at task i → States (take (b - a) (drop a task)) (act (task_in task) i).pre
  unfolding action_in
  states_pre a b ea eb =
      let R = L.rows i h in
      part_states a b _ (omega (arith, R.pre_below)) (rw (ea, eb) (sym (ap (λ (x : Action). x.pre) (task_in_act task i h)))) (L.formed.pre_sorted i)

  pub states_eff : (a b : ℕ) → a ≡ eff_at task i → b ≡ end_at task i → States (take (b - a) (drop a task)) (act (task_in task) i).eff
  unfolding action_in
  states_eff a b ea eb =
      let R = L.rows i h in
      part_states a b _ (omega (arith, R.eff_below)) (rw (ea, eb) (sym (ap (λ (x : Action). x.eff) (task_in_act task i h)))) (L.formed.eff_sorted i)
