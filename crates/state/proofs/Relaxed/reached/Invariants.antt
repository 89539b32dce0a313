-- The sum is that of the sets of the variables passed, each of 64 values at most.
use mathlib.Core.Path.{◌≡◌}
use Prim.Native.Nat.{◌*◌, ◌≤◌}
use Rattle.planning.specs.Runs.{size}
use Rattle.sets.specs.Sets.{sets_of}
use Rattle.state.proofs.Relaxed.reached.Given as goal

abbrev pub invariant-loop-set : goal.invariant-loop-set
invariant-loop-set l = (l.sum ≤ 64 * l.set-index) × (l.sum ≡ size l.set-index (λ _. 64) (sets_of l.fn.self.sets))
