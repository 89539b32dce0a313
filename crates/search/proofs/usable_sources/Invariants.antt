-- The preconditions before k are held and of other variables: what is held and asked in all is so from k on.
use mathlib.Core.Path.{◌≡◌}
use lib.ListN.{drop}
use Rattle.planning.specs.Runs.{look, holds}
use Rattle.task.specs.Task.{facts_of}
use Rattle.sets.specs.Sets.{sets_of}
use Rattle.search.proofs.usable_sources.Given as goal

abbrev pub invariant-loop-k : goal.invariant-loop-k
invariant-loop-k l =
    (holds (sets_of l.arcs.ever.now) (facts_of l.pre) ≡ holds (sets_of l.arcs.ever.now) (facts_of (drop l.k l.pre)))
    × (look (facts_of l.pre) l.v ≡ look (facts_of (drop l.k l.pre)) l.v)
