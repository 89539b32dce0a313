-- The set has the black variables before v.
use Rattle.task.specs.Task.{task_in}
use Rattle.sets.proofs.Loading.{Painting}
use Rattle.sets.proofs.painted.Given as goal

abbrev pub invariant-loop-v : goal.invariant-loop-v
invariant-loop-v l = Painting (task_in l.task) l.n l.set l.v
