-- The goals loaded are a list that states those of the task.
use mathlib.Core.Path.{ap, ◌∙◌}
use Rattle.planning.specs.Runs.{holds}
use Rattle.state.proofs.Stating.{goals_states}
use Rattle.counts.proofs.at_goals.Goals as goal

pub all_hold-requires : goal.all_hold-requires
all_hold-requires c = rw c.listed.ensures (goals_states _ _ c.load-goals.ensures).small

pub returns : goal.returns
returns c = c.all_hold.ensures ∙ rw c.listed.ensures (ap (holds _) (goals_states _ _ c.load-goals.ensures).stated)
