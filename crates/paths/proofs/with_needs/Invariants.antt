-- The set has the variables of the preconditions so far, and those of the others are to come.
use mathlib.Core.Bool.{◌||◌}
use mathlib.Core.Path.{◌≡◌}
use Prim.Native.Nat.{ℕ}
use lib.ListN.{drop}
use Rattle.planning.specs.Runs.{touches}
use Rattle.task.specs.Task.{facts_of}
use Rattle.sets.specs.Sets.{in_set}
use Rattle.paths.proofs.with_needs.Given as goal

abbrev pub invariant-loop-f : goal.invariant-loop-f
invariant-loop-f l = (v : ℕ) → (in_set l.set v || touches (facts_of l.f-items) v) ≡ (in_set l.m v || touches (facts_of (drop l.f-index l.f-items)) v)
