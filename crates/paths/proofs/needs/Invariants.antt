-- Actions before i are covered.
use Rattle.task.specs.Task.{task_in}
use Rattle.paths.specs.Paths.{Covers}
use Rattle.paths.proofs.needs.Given as goal

abbrev pub invariant-loop-i : goal.invariant-loop-i
invariant-loop-i l = Covers (task_in l.task) l.i l.set
