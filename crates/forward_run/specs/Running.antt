-- What the forward run comes to.
use Rattle.std.specs.Prelude.{◌≡◌, List, ℕ, ◌≤◌, length, take}
use Rattle.planning.specs.Record.{Task}
use Rattle.planning.specs.Relaxed.{forward_run, forward_end, reaches_goals}
use Rattle.sets.specs.Sets.{sets_of}
use Rattle.forward_run.specs.declared.Ran.{Ran}

-- the run in the front of the list, and what is said of it
pub record RanOf (t : Task) (plan : List ℕ) (r : Ran) : Type 0 where
  pub list : take r.steps plan ≡ forward_run t
  pub steps : r.steps ≡ length (forward_run t)
  pub few : r.steps ≤ 1024
  pub long : length plan ≡ 1024
  pub solved : r.solved ≡ reaches_goals t
  pub state : sets_of r.state.sets ≡ forward_end t
