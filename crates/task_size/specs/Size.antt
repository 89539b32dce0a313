-- How long the loaded task of a record is.
use Rattle.std.specs.Prelude.{◌≡◌, List, ℕ, zero, suc, ◌+◌, ◌*◌, ◌≤◌, length}
use Rattle.std.proofs.Math.Option.{none}
use Rattle.planning.specs.Record.{variable_bit, variables_in, actions_in, preconditions_in, effects_in, action_end, record_check}
use Rattle.task.specs.Task.{links_end, action_rows}

-- the number of facts of the action at bit p, preconditions and effects
unfoldable pub facts_of : List ℕ → ℕ → ℕ
facts_of s p = preconditions_in s p + effects_in s p

-- the number of facts of n actions from bit p on
unfoldable pub facts_from : List ℕ → ℕ → ℕ → ℕ
facts_from s p zero = 0
facts_from s p (suc n) = facts_of s p + facts_from s (action_end s p) n

-- the rows before those of actions, a row for each action, one number for each fact, and 64 for the heads of each variable
unfoldable pub task_size : List ℕ → ℕ
task_size s = 4 * (action_rows + actions_in s) + facts_from s (variable_bit (variables_in s)) (actions_in s) + 64 * variables_in s

-- a list for the task of a record that may be accepted
pub record RoomIn (s task : List ℕ) : Type 0 where
  pub head : links_end ≤ length task
  pub enough : record_check s ≡ none → task_size s ≤ length task
