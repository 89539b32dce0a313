-- The goals of the variables before v stand in the front of the list.
use Rattle.task.specs.Task.{task_in}
use Rattle.sets.proofs.Loading.{Loading}
use Rattle.state.proofs.Goals.load.Given as goal

abbrev pub invariant-loop-v : goal.invariant-loop-v
invariant-loop-v l = Loading (task_in l.task) l.n l.goals.facts l.goals.count l.v
