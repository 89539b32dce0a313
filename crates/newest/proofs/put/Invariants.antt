-- The first entries are the newest values passed, and the rest is as it was.
use mathlib.Core.List.{◌++◌}
use mathlib.Core.Path.{◌≡◌}
use lib.ListN.{length, take, drop}
use Rattle.newest.proofs.put.Given as goal

abbrev pub invariant-loop-v : goal.invariant-loop-v
invariant-loop-v l = (length l.values ≡ length l.initial.values) × (l.values ≡ take l.v l.newest ++ drop l.v l.initial.values)
