-- Preconditions passed are of black variables, so that the test of all is that of those still to come.
use mathlib.Core.Path.{◌≡◌}
use lib.ListN.{drop}
use Rattle.planning.specs.Runs.{black}
use Rattle.task.specs.Task.{facts_of, task_in}
use Rattle.counts.specs.Plain.{all_black}
use Rattle.counts.proofs.needs_black.Given as goal

abbrev pub invariant-loop-f : goal.invariant-loop-f
invariant-loop-f l = all_black (black (task_in l.task)) (facts_of l.facts) ≡ all_black (black (task_in l.task)) (facts_of (drop l.f-index l.facts))
