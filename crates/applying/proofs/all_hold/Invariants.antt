-- Facts passed are in the state, so that the test of all is that of the facts still to come.
use mathlib.Core.Path.{◌≡◌}
use lib.ListN.{drop}
use Rattle.planning.specs.Runs.{holds}
use Rattle.task.specs.Task.{facts_of}
use Rattle.applying.proofs.all_hold.Given as goal

abbrev pub invariant-loop-f : goal.invariant-loop-f
invariant-loop-f g l = holds (g.S.Holding.state l.state) (facts_of l.facts) ≡ holds (g.S.Holding.state l.state) (facts_of (drop l.f-index l.facts))
