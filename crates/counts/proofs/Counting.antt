-- What is counted along a list. As long as every step ran for real the newest values are the real state, so that the next step is tested on
-- them; once one has failed the count stays.
use mathlib.Core.Path.{◌≡◌, refl, sym, ap, ◌∙◌}
use mathlib.Core.Bool.{true}
use mathlib.Core.List.{List, [], ◌∷◌, ◌++◌}
use Prim.Native.Nat.{ℕ, ◌+◌, ◌<◌, ◌≤◌}
use native.Mathlib.Omega.{arith}
use lib.ListN.{length, length-append}
use Rattle.planning.specs.Record.{Action, Task}
use Rattle.planning.specs.Runs.{holds, step, real, actions, act, initial, goals, run_by, steps_by, run, steps_run, is_plan, cost_by, cost_of, all_below}
use Rattle.planning.specs.Newest.{Values, initial_values, newer, alone}
use Rattle.planning.specs.Repair.{repaired, searches}
use Rattle.planning.specs.Calls.{planned}
use Rattle.laws.proofs.Tests.{T→true}
use Rattle.laws.proofs.Steps.{All}
use Rattle.laws.proofs.Plans.{all_below_intro, runs_steps_run}
use Rattle.laws.proofs.Formed.{Formed, sorted_has, goals_sorted}
use Rattle.laws.proofs.Prefixes.{run_by_behind, steps_by_le}
use Rattle.laws.proofs.Sizes.{cost_of_le}
use Rattle.laws.proofs.Newest.{newest_after, real_holds}
use Rattle.task.specs.Task.{task_in, action_in, cost_at}
use Rattle.task.proofs.Reading.{task_in_act}
use Rattle.applying.proofs.Running.{further_steps}
use Rattle.counts.specs.declared.Counts.{Counts}
use Rattle.counts.specs.Counting.{no_counts, Onward, Few, judged_by}

-- the cost of an action, as the list of the task has it
pub cost_is : (task : List ℕ) (i : ℕ) → i < actions (task_in task) → cost_at task i ≡ (act (task_in task) i).cost
unfolding action_in
cost_is task i h = ap (λ (a : Action). a.cost) (sym (task_in_act task i h))

-- the counts and newest values of the list l
pub record Counted (t : Task) (l : List ℕ) (f : Values) (c : Counts) : Type 0 where
  pub steps : c.steps ≡ length l
  pub runs : c.runs ≡ steps_run (act t) real l (initial t)
  pub cost : c.cost ≡ cost_of t l
  pub newest : f ≡ newest_after t l

pub counted_none : (t : Task) (f : Values) → f ≡ initial_values t → Counted t [] f no_counts
unfolding steps_by cost_by run_by
counted_none t f e = record { steps = refl; runs = refl; cost = refl; newest = e }

cost_of_behind : (t : Task) (l : List ℕ) (i : ℕ) → cost_of t (l ++ (i ∷ [])) ≡ cost_of t l + (act t i).cost
unfolding cost_by
cost_of_behind t [] i = omega arith
cost_of_behind t (j ∷ l) i = omega (arith, cost_of_behind t l i)

module _ {t : Task} (F : Formed t) {l : List ℕ} {f : Values} {c : Counts} (C : Counted t l f c) where
  -- a list that fits
  pub counted_few : length l ≤ 32768 → Few c
  counted_few h = record {
    steps = omega (arith, C.steps);
    runs = omega (arith, C.steps, C.runs, steps_by_le (λ i s. holds s (act t i).pre) (λ i. step real (act t i)) l (initial t));
    cost = omega (arith, C.steps, C.cost, cost_of_le t F l);
  }

  -- one action more
  pub counted_behind : (i : ℕ) (r : Counts) (g : Values) → Onward (act t i) f c r → g ≡ newer (act t i) f → Counted t (l ++ (i ∷ [])) g r
  unfolding run_by
  counted_behind i r g O e = record {
    steps = omega (arith, O.steps, C.steps, length-append l (i ∷ []));
    runs = O.runs ∙ further_steps t F l f c.runs c.steps i C.newest C.runs C.steps;
    cost = omega (arith, O.cost, C.cost, cost_of_behind t l i);
    newest = e ∙ ap (newer (act t i)) C.newest ∙ sym (run_by_behind (λ i. newer (act t i)) l i (initial_values t));
  }

  -- the verdict
  pub counted_verdict : (k : List ℕ) → l ≡ repaired t k → (n : ℕ) → n ≡ searches t k → All (λ i. i < actions t) l → judged_by (holds (alone f) (goals t)) c n ≡ planned t k
  unfolding planned is_plan
  counted_verdict k whole n en b =
      let below : all_below (actions t) l ≡ true = T→true (all_below (actions t) l) (all_below_intro (actions t) l b) in
      let met : holds (run (act t) real l (initial t)) (goals t) ≡ holds (alone f) (goals t) =
      real_holds t F l (goals t) (λ v d x. (sorted_has _ _ 0 (goals t) (goals_sorted t F) v d x).var_below) ∙ ap (λ (g : Values). holds (alone g) (goals t)) (sym C.newest) in
      rw (← whole, below, runs_steps_run (act t) real l (initial t), met, C.steps, C.runs, C.cost, en) refl
