-- The initial facts of the variables before v are unset, and all else is as it was.
use Rattle.task.specs.Task.{task_in}
use Rattle.achievers.proofs.Achievers.{Unsetting}
use Rattle.achievers.proofs.unset_initial.Given as goal

abbrev pub invariant-loop-v : goal.invariant-loop-v
invariant-loop-v l = Unsetting (task_in l.task) l.initial.first l.first l.v
