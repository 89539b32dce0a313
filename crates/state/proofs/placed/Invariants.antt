-- The entries before k are those of the values with the fact set, and n says how far its variable is.
use mathlib.Core.Path.{◌≡◌}
use Prim.Native.Nat.{◌+◌, ◌-◌, ◌/◌, ◌%◌}
use lib.ListN.{set}
use Rattle.sets.specs.Sets.{values_of}
use Rattle.state.proofs.Choosing.{Filled}
use Rattle.state.proofs.placed.Given as goal

abbrev pub invariant-loop-k : goal.invariant-loop-k
invariant-loop-k l = (l.n ≡ 64 - l.f / 64 + l.k) × Filled (values_of (set l.values (l.f / 64) (l.f % 64))) l.r l.k
