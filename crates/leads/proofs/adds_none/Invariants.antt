-- Effects before this one are held or outside the set, so that the test of all of them is that of the others.
use mathlib.Core.Path.{◌≡◌}
use lib.ListN.{drop}
use Rattle.planning.specs.Repair.{black_met}
use Rattle.task.specs.Task.{facts_of}
use Rattle.sets.specs.Sets.{sets_of, mode_of}
use Rattle.leads.proofs.adds_none.Given as goal

abbrev pub invariant-loop-f : goal.invariant-loop-f
invariant-loop-f l =
    black_met (mode_of l.set) (sets_of l.arcs.ever.now) (facts_of l.f-items)
    ≡ black_met (mode_of l.set) (sets_of l.arcs.ever.now) (facts_of (drop l.f-index l.f-items))
