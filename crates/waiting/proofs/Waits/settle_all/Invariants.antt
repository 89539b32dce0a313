-- Each turn takes the front action off the chain that is left and settles it; a chain has at most 1,024 actions.
use mathlib.Core.Path.{◌≡◌}
use Prim.Native.Nat.{◌-◌}
use Rattle.planning.specs.Runs.{has, actions}
use Rattle.task.specs.Task.{facts_of, task_in}
use Rattle.sets.specs.Sets.{sets_of}
use Rattle.waiting.specs.Waiting.{Sites}
use Rattle.waiting.proofs.Waits.settle_all.Given as goal

abbrev pub invariant-loop : goal.invariant-loop
invariant-loop l =
    Sites l.task l.initial.self.order.now (actions (task_in l.task)) (sets_of l.sets) (has (facts_of l.owed)) l.work l.self.ready l.j (1024 - l.counter) × (l.self.order.now ≡ l.initial.self.order.now)
