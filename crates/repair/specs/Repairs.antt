-- What the repair is handed.
use Rattle.std.specs.Prelude.{◌≡◌, true, List, ℕ}
use Rattle.planning.specs.Record.{Task}
use Rattle.planning.specs.Runs.{State, relaxed, is_plan}
use Rattle.task.specs.Task.{task_in}
use Rattle.task.specs.Links.{Prepared}
use Rattle.paths.specs.Paths.{Memo}
use Rattle.entries.specs.Entries.{Entries}

-- a task that passed the painting, and a relaxed plan of it
pub record Repairable (task list : List ℕ) : Type 0 where
  pub prepared : Prepared task
  pub entries : Entries (task_in task) list
  pub is_red_black_plan : is_plan (task_in task) relaxed list ≡ true

-- a memo that is right whatever is held, as no lead is in it
abbrev pub EmptyMemo : Task → List ℕ → Type 0
EmptyMemo t memo = (K : State) → Memo t K memo
