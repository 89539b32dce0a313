-- Variables before v have few values.
use Prim.Native.Nat.{ℕ, ◌≤◌, ◌<◌}
use Rattle.planning.specs.Runs.{count}
use Rattle.task.specs.Task.{task_in}
use Rattle.paths.proofs.has_few_values.Given as goal

abbrev pub invariant-loop-v : goal.invariant-loop-v
invariant-loop-v l = (u : ℕ) → u < l.v → count (task_in l.task) u ≤ 15
