-- The actions that change v to x are those of one chain, rising: each is noted for the values from which it leads here, and the chain's
-- end leaves none out.
use Prim.Native.Nat.{◌-◌}
use Rattle.task.specs.Task.{task_in}
use Rattle.sets.specs.Sets.{sets_of}
use Rattle.search.proofs.Arriving.{Arriving}
use Rattle.search.proofs.arrive.Given as goal

abbrev pub invariant-loop-i : goal.invariant-loop-i
invariant-loop-i l = Arriving (task_in l.arcs.task.now) (sets_of l.arcs.ever.now) l.v l.x l.key l.rest l.front l.initial.labels l.labels l.g l.i

abbrev pub decreases-loop-i : goal.decreases-loop-i
decreases-loop-i l = 65536 - l.i
