-- The chains of the facts from place k on are still owed; a turn takes one of them off and settles its actions.
use mathlib.Core.Path.{◌≡◌}
use lib.ListN.{length, drop}
use Rattle.planning.specs.Runs.{has}
use Rattle.task.specs.Task.{facts_of}
use Rattle.sets.specs.Sets.{sets_of}
use Rattle.waiting.specs.Waiting.{Settled}
use Rattle.waiting.proofs.Waits.wake.Given as goal

abbrev pub invariant-loop-k : goal.invariant-loop-k
invariant-loop-k l =
    Settled l.task l.initial.self.order.now (sets_of l.sets) (has (facts_of (drop l.k l.facts))) l.work l.self.ready
    × (length l.facts ≡ 0 → l.self.ready ≡ l.initial.self.ready) × (l.self.order.now ≡ l.initial.self.order.now)
