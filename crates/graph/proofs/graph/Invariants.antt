-- The rows at action i hold the arcs of the actions below i.
use Rattle.task.specs.Task.{task_in}
use Rattle.graph.proofs.Rows.{Drawing}
use Rattle.graph.proofs.graph.Given as goal

abbrev pub invariant-loop-i : goal.invariant-loop-i
invariant-loop-i l = Drawing (task_in l.task) l.n l.rows l.i
