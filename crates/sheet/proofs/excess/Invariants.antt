-- While no bit from 10 on is set in any entry passed, each was below 1,024: a number is at most the bits of two.
use mathlib.Core.Path.{◌≡◌}
use Prim.Native.Nat.{◌<◌}
use lib.ListN.{drop}
use Rattle.planning.specs.Calls.{not_below}
use Rattle.sheet.proofs.excess.Given as goal

abbrev pub invariant-loop-x : goal.invariant-loop-x
invariant-loop-x l = l.any < 1024 → not_below 1024 0 l.list ≡ not_below 1024 l.x-index (drop l.x-index l.list)
