-- What is counted along a list, one action after the other.
use Rattle.std.specs.Prelude.{◌≡◌, Bool, ◌&&◌, ℕ, ◌+◌, ◌*◌, ◌<◌, ◌≤◌, eqb}
use Rattle.planning.specs.Record.{Action}
use Rattle.planning.specs.Runs.{holds}
use Rattle.planning.specs.Newest.{Values, alone}
use Rattle.planning.specs.Calls.{Planned}
use Rattle.sets.specs.Sets.{further}
use Rattle.counts.specs.declared.Counts.{Counts}

-- nothing is counted
abbrev pub no_counts : Counts
no_counts = record { steps = 0; runs = 0; cost = 0 }

-- the counts r are those of c with the action a behind, where f are the newest values
pub record Onward (a : Action) (f : Values) (c r : Counts) : Type 0 where
  pub steps : r.steps ≡ c.steps + 1
  pub runs : r.runs ≡ further (holds (alone f) a.pre) c.runs c.steps
  pub cost : r.cost ≡ c.cost + a.cost

-- counts of a list that fits
pub record Few (c : Counts) : Type 0 where
  pub steps : c.steps ≤ 32768
  pub runs : c.runs ≤ c.steps
  pub cost : c.cost ≤ 65535 * c.steps

-- and of one that has room for one more
pub record Small (c : Counts) : Type 0 where
  pub few : Few c
  pub more : c.steps < 32768

-- the verdict, by the test whether the goals are met, with n searches
abbrev pub judged_by : Bool → Counts → ℕ → Planned
judged_by met c n = record { steps = c.steps; cost = c.cost; real' = eqb c.runs c.steps && met; runs = c.runs; searches' = n }
