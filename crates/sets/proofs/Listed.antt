-- An action of a loaded task, as the loops over its facts need it.
use mathlib.Core.Path.{◌≡◌}
use mathlib.Core.List.{List, [], ◌∷◌}
use Prim.Native.Nat.{ℕ, ◌+◌, ◌*◌, ◌<◌, ◌≤◌}
use lib.ListN.{length, get_or}
use Rattle.planning.specs.Record.{Fact}
use Rattle.planning.specs.Runs.{act}
use Rattle.task.specs.Task.{facts_in, action_in, task_in, action_rows, pre_at, eff_at, end_at}

-- variables rise strictly from low on, and are below 64
abbrev pub Rising : ℕ → List Fact → Type 0
Rising low [] = Unit {0}
Rising low (f ∷ fs) = (low ≤ f.var) × (f.var < 64) × Rising (f.var + 1) fs

pub record Listed (task : List ℕ) (i : ℕ) : Type 0 where
  pub room : 4 * (action_rows + i) + 4 ≤ length task
  pub near : i < 1024
  pub pre_below : pre_at task i ≤ eff_at task i
  pub eff_below : eff_at task i ≤ end_at task i
  pub end_below : end_at task i ≤ length task
  pub small : (k : ℕ) → pre_at task i ≤ k → k < end_at task i → get_or task k 0 < 4096
  pub rises : Rising 0 (facts_in task (eff_at task i) (end_at task i))
  pub states : action_in task i ≡ act (task_in task) i
