-- Facts so far are red or held, so that the test of the whole list is that of the others.
use mathlib.Core.Path.{◌≡◌}
use lib.ListN.{drop}
use Rattle.planning.specs.Runs.{black}
use Rattle.planning.specs.Newest.{alone}
use Rattle.planning.specs.Repair.{black_met}
use Rattle.task.specs.Task.{facts_of, task_in}
use Rattle.sets.specs.Sets.{values_of}
use Rattle.stages.proofs.black_met.Given as goal

abbrev pub invariant-loop-f : goal.invariant-loop-f
invariant-loop-f l =
    black_met (black (task_in l.task)) (alone (values_of l.newest)) (facts_of l.facts)
    ≡ black_met (black (task_in l.task)) (alone (values_of l.newest)) (facts_of (drop l.f-index l.facts))
