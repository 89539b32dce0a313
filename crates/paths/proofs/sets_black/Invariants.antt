-- Effects before this one are red, so that the test of all of them is that of the others.
use mathlib.Core.Path.{◌≡◌}
use lib.ListN.{drop}
use Rattle.task.specs.Task.{facts_of, task_in}
use Rattle.paths.specs.Paths.{any_black}
use Rattle.paths.proofs.sets_black.Given as goal

abbrev pub invariant-loop-f : goal.invariant-loop-f
invariant-loop-f l = any_black (task_in l.task) (facts_of l.f-items) ≡ any_black (task_in l.task) (facts_of (drop l.f-index l.f-items))
