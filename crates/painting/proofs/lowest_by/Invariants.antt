-- No action below i lacks a return, and its marks are told from all before.
use Rattle.task.specs.Task.{task_in}
use Rattle.painting.proofs.Checks.{Scanning}
use Rattle.painting.proofs.lowest_by.Given as goal

abbrev pub invariant-loop-i : goal.invariant-loop-i
invariant-loop-i l = Scanning (task_in l.task) l.n l.marks l.memory.kept l.i
