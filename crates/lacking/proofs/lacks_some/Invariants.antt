-- Every value below d has its return.
use Rattle.std.proofs.Common.{◌/◌, ◌%◌}
use Rattle.task.specs.Task.{task_in}
use Rattle.returns.specs.Returns.{marked}
use Rattle.lacking.proofs.Arcs.{Trying}
use Rattle.lacking.proofs.lacks_some.Given as goal

abbrev pub invariant-loop-d : goal.invariant-loop-d
invariant-loop-d l = Trying (task_in l.m.task.now) (marked l.m.own l.m.marks.now) (l.f / 64) (l.f % 64) l.d
