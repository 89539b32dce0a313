-- The entries before k are below n, so that all that lead are these and those that lead the rest.
use mathlib.Core.Path.{◌≡◌}
use Prim.Native.Nat.{◌+◌}
use lib.ListN.{drop}
use Rattle.entries.specs.Entries.{leading}
use Rattle.entries.proofs.leading.Given as goal

abbrev pub invariant-loop-k : goal.invariant-loop-k
invariant-loop-k l = leading l.n l.list ≡ l.k + leading l.n (drop l.k l.list)
