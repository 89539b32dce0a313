-- What is written and the path from the present value on are the whole path, and the length of the latter falls with every turn. The lead
-- from the present value is known, so that the one from the next is.
use mathlib.Core.Logic.{◌≢◌}
use lib.ListN.{length}
use Rattle.task.specs.Task.{task_in}
use Rattle.sets.specs.Sets.{sets_of}
use Rattle.paths.specs.Paths.{paths_of, unknown, lead_in}
use Rattle.paths.proofs.Walking.{Walking}
use Rattle.paths.proofs.path.Given as goal

abbrev pub invariant-loop-l : goal.invariant-loop-l
invariant-loop-l l = Walking (task_in l.arcs.task.now) (sets_of l.arcs.ever.now) l.v l.d l.c l.at l.initial.list l.list l.x l.e l.l × (lead_in l.memo l.k l.x ≢ unknown l.x)

abbrev pub decreases-loop-l : goal.decreases-loop-l
decreases-loop-l l = length (paths_of (task_in l.arcs.task.now) (sets_of l.arcs.ever.now) l.v l.x l.d)
