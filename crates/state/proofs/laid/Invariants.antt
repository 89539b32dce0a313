-- The entries before k are the new values over the old ones.
use Rattle.sets.specs.Sets.{values_of, over}
use Rattle.state.proofs.Choosing.{Filled}
use Rattle.state.proofs.laid.Given as goal

abbrev pub invariant-loop-k : goal.invariant-loop-k
invariant-loop-k l = Filled (over (values_of l.old) (values_of l.new)) l.r l.k
