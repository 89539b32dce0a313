-- Where every step placed is taken, what is left begins with the steps of the next stage; else one or more are taken, and state and counts
-- are those behind them. In the end nothing is left, and counts and searches are those of the whole repair.
use Prim.Native.Nat.{◌+◌, ◌-◌, ◌*◌}
use lib.ListN.{length}
use Rattle.task.specs.Task.{task_in}
use Rattle.sets.specs.Sets.{sets_of, values_of}
use Rattle.repair.proofs.Repairing.{Repairing}
use Rattle.counts.specs.Plain.{Plain}
use Rattle.repair.proofs.walk.Given as goal

abbrev pub invariant-loop-c : goal.invariant-loop-c
invariant-loop-c l =
    Repairing (task_in l.task) l.list l.initial.plan l.plan l.marks l.memo l.s.sets (values_of l.s.newest.values) l.c l.searched l.at l.j × Plain (task_in l.task) (sets_of l.s.sets) l.plain

abbrev pub decreases-loop-c : goal.decreases-loop-c
decreases-loop-c l = (length l.list + 1 - l.j) * (length l.initial.plan + 1) + (l.at - l.c.steps)
