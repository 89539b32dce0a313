-- The actions of ranks below j are settled; the next one is on no chain, so it can be put in front of what is left to settle.
use mathlib.Core.Path.{◌≡◌}
use mathlib.Core.List.{[]}
use Rattle.planning.specs.Runs.{has}
use Rattle.sets.specs.Sets.{sets_of}
use Rattle.waiting.proofs.Chains.{Entered}
use Rattle.waiting.proofs.Waits.settle_each.Given as goal

abbrev pub invariant-loop-j : goal.invariant-loop-j
invariant-loop-j l =
    Entered l.task l.initial.self.order.now (sets_of l.sets) (has []) l.work l.self.ready l.j × (l.self.order.now ≡ l.initial.self.order.now)
