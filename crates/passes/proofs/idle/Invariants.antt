-- Entries so far need nothing of v, so that the test of the whole list is that of the others.
use mathlib.Core.Path.{◌≡◌}
use lib.ListN.{drop}
use Rattle.task.specs.Task.{task_in}
use Rattle.passes.specs.Passes.{unasked}
use Rattle.passes.proofs.idle.Given as goal

abbrev pub invariant-loop-i : goal.invariant-loop-i
invariant-loop-i l = unasked (task_in l.task) l.v l.list ≡ unasked (task_in l.task) l.v (drop l.i-index l.list)
