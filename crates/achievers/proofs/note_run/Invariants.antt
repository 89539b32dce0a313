-- The run is looked at from its end: what is left is its front, and for each fact the list has the first action that sets it among those
-- behind.
use mathlib.Core.Path.{◌≡◌}
use Prim.Native.Nat.{◌≤◌}
use lib.ListN.{length, take, drop}
use Rattle.planning.specs.Relaxed.{forward_run}
use Rattle.task.specs.Task.{task_in}
use Rattle.achievers.specs.Achievers.{Setters}
use Rattle.achievers.proofs.note_run.Given as goal

abbrev pub invariant-loop-i : goal.invariant-loop-i
invariant-loop-i l =
    let rest = l.i-iterator.iter.rest.now in
    (length l.first ≡ 4096) × (rest ≡ take (length rest) (forward_run (task_in l.task))) × (length rest ≤ length (forward_run (task_in l.task)))
    × Setters (task_in l.task) (drop (length rest) (forward_run (task_in l.task))) l.first
