-- What all facts ask is what those still to come ask: the facts passed are of other variables.
use mathlib.Core.Path.{◌≡◌}
use lib.ListN.{drop}
use Rattle.planning.specs.Runs.{look}
use Rattle.task.specs.Task.{facts_of}
use Rattle.sets.proofs.asked.Given as goal

abbrev pub invariant-loop-f : goal.invariant-loop-f
invariant-loop-f l = look (facts_of l.facts) l.v ≡ look (facts_of (drop l.f-index l.facts)) l.v
