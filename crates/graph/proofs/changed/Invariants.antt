-- The set so far with the black variables that the effects still to come change are those that all of them change.
use Rattle.planning.specs.Runs.{act}
use Rattle.task.specs.Task.{task_in}
use Rattle.graph.proofs.Rows.{Changing}
use Rattle.graph.proofs.changed.Given as goal

abbrev pub invariant-loop-f : goal.invariant-loop-f
invariant-loop-f l = Changing l.effects (act (task_in l.task) l.i).pre l.paint l.set l.f-index
