-- No action from j up to k returns: those that set f stand in the chain, and the chain rises.
use Rattle.std.proofs.Common.{◌/◌, ◌%◌, ◌-◌}
use Rattle.task.specs.Task.{task_in}
use Rattle.returns.specs.Returns.{marked}
use Rattle.returns.proofs.Returns.{Chasing}
use Rattle.returns.proofs.first_return.Given as goal

abbrev pub invariant-loop-k : goal.invariant-loop-k
invariant-loop-k l = Chasing (task_in l.m.task.now) (marked l.m.own l.m.marks.now) (l.f / 64) (l.f % 64) l.j l.k

abbrev pub decreases-loop-k : goal.decreases-loop-k
decreases-loop-k l = 65535 - l.k
