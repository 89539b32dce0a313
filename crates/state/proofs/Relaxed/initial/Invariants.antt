-- The sets of the variables below v are filled, the others empty.
use Rattle.task.specs.Task.{task_in}
use Rattle.sets.proofs.Loading.{Starting}
use Rattle.state.proofs.Relaxed.initial.Given as goal

abbrev pub invariant-loop-v : goal.invariant-loop-v
invariant-loop-v l = Starting (task_in l.task) l.n l.sets l.v
