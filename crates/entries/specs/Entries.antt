-- A list of actions: its entries, their check, and those before the first that is not an action.
use Rattle.std.specs.Prelude.{true, false, List, [], ◌∷◌, ℕ, suc, ◌<◌, ◌≤◌, ltb, length, get_or}
use Rattle.planning.specs.Basics.{Check, in_order}
use Rattle.planning.specs.Record.{Task}
use Rattle.planning.specs.Runs.{actions}
use Rattle.planning.specs.Calls.{length_check, entries_check}
use Rattle.task.specs.Task.{task_in, Loaded}

-- each entry is an action of the task
abbrev pub Entries : Task → List ℕ → Type 0
Entries t l = (k : ℕ) → k < length l → get_or l k 0 < actions t

-- a loaded task, and a list of its actions
pub record Ready (task l : List ℕ) : Type 0 where
  pub loaded : Loaded task
  pub short : length l ≤ 32768
  pub entries : Entries (task_in task) l

-- the checks of a list of actions
abbrev pub list_check : Task → List ℕ → Check
list_check t l = in_order (length_check l ∷ entries_check t l ∷ [])

-- the entries before the first that is not below n
unfoldable pub leading : ℕ → List ℕ → ℕ
leading n [] = 0
leading n (i ∷ l) = elim (ltb i n) [ true ↦ suc (leading n l) | false ↦ 0 ]
