-- The first k places are taken, `left` has the black variables that are not, and the places with what the definition still takes are the order.
use Rattle.task.specs.Task.{task_in}
use Rattle.clients_first.proofs.Clients.{Taking}
use Rattle.clients_first.proofs.fill_order.Given as goal

abbrev pub invariant-loop-k : goal.invariant-loop-k
invariant-loop-k l = Taking (task_in l.initial.task) l.n l.initial.task l.task l.left l.k
