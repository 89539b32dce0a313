-- Every step is by an action of the set; values and counts are those behind it.
use mathlib.Core.Path.{◌≡◌}
use Prim.Native.Nat.{◌+◌}
use lib.ListN.{length}
use Rattle.task.specs.Task.{task_in}
use Rattle.sets.specs.Sets.{values_of}
use Rattle.counts.specs.Counting.{Few}
use Rattle.counts.specs.Plain.{Gliding}
use Rattle.counts.proofs.glide_on.Given as goal

abbrev pub invariant-loop-x : goal.invariant-loop-x
invariant-loop-x l = record {
  gliding : Gliding (task_in l.task) l.plain l.plan (length l.plan) (values_of l.initial.now.values) l.initial.counts (values_of l.now.values) l.counts;
  few : Few l.counts;
  place : l.counts.steps ≡ l.fn.c.steps + l.x-index;
}
