-- The values of the variables below v are filled, the others 0.
use Rattle.task.specs.Task.{task_in}
use Rattle.sets.proofs.Loading.{Over}
use Rattle.state.proofs.Renewing.{Placing}
use Rattle.state.proofs.Newest.initial.Given as goal

abbrev pub invariant-loop-v : goal.invariant-loop-v
invariant-loop-v l = Over (task_in l.task) l.n l.v × Placing (task_in l.task) l.values l.v
