-- A loaded task states each of its actions, and 64 sets of 64 values can take them: a variable below 64 leaves no room for a
-- number of 4,096 or more.
use mathlib.Core.Path.{◌≡◌, sym}
use mathlib.Core.List.{List, [], ◌∷◌}
use Prim.Native.Nat.{ℕ, ◌+◌, ◌<◌, ◌≤◌}
use native.Mathlib.Omega.{arith}
use lib.ListN.{length, get_or}
use Rattle.planning.specs.Record.{Fact, Task}
use Rattle.planning.specs.Runs.{variables, actions, count, act, goals}
use Rattle.laws.proofs.Formed.{Sorted, Formed, goals_sorted}
use Rattle.task.specs.Task.{facts_in, task_in, Loaded, eff_at, end_at}
use Rattle.task.proofs.Reading.{task_in_act}
use Rattle.sets.proofs.Listed.{Rising, Listed}
use Rattle.sets.proofs.Facts.{between_inside, eff_facts, all_inside}

sorted_rising : (n : ℕ) (count : ℕ → ℕ) (low : ℕ) (fs : List Fact) → n ≤ 64 → Sorted n count low fs → Rising low fs
sorted_rising n count low [] h S = tt
sorted_rising n count low (f ∷ fs) h S = (S.0, omega (arith, S.1), sorted_rising n count (f.var + 1) fs h S.3)

pub loaded_listed : (task : List ℕ) → Loaded task → (i : ℕ) → i < actions (task_in task) → Listed task i
loaded_listed task L i b =
    let R = L.rows i b in
    let F = L.formed in
    record {
      room = R.room;
      near = omega (arith, F.actions_max);
      pre_below = R.pre_below;
      eff_below = R.eff_below;
      end_below = R.end_below;
      small = λ k l m. omega (arith, all_inside task L i b k l m, F.variables_max);
      rises = sorted_rising (variables (task_in task)) (count (task_in task)) 0 (facts_in task (eff_at task i) (end_at task i)) F.variables_max (rw (eff_facts task L i b) (F.eff_sorted i));
      states = sym (task_in_act task i b);
    }

pub effects_rise : (task : List ℕ) → Loaded task → (i : ℕ) → i < actions (task_in task) → Rising 0 (act (task_in task) i).eff
effects_rise task L i b = let F = L.formed in sorted_rising (variables (task_in task)) (count (task_in task)) 0 (act (task_in task) i).eff F.variables_max (F.eff_sorted i)

-- a list that states the goals
pub goals_small : (t : Task) (l : List ℕ) (n : ℕ) → Formed t → n ≤ length l → facts_in l 0 n ≡ goals t → (k : ℕ) → k < n → get_or l k 0 < 4096
goals_small t l n F h e k b = omega (arith, between_inside (variables t) (count t) l n h 0 k (omega arith) b (rw e (goals_sorted t F)), F.variables_max)
