-- The goals of a task as a list of facts.
use Rattle.std.specs.Prelude.{◌≡◌, ℕ, ◌<◌, ◌≤◌, get_or}
use Rattle.planning.specs.Record.{Task}
use Rattle.planning.specs.Runs.{goals}
use Rattle.task.specs.Task.{facts_in}
use Rattle.state.specs.declared.Goals.{Goals}

-- the goals of the task, in the front of a list
pub record GoalsOf (t : Task) (g : Goals) : Type 0 where
  pub few : g.count ≤ 64
  pub small : (k : ℕ) → k < g.count → get_or g.facts k 0 < 4096
  pub are : facts_in g.facts 0 g.count ≡ goals t
