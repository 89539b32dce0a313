-- Nothing has to be known of the actions passed: `false` promises nothing.
use Rattle.lacking.proofs.is_covered.Given as goal

abbrev pub invariant-loop-k : goal.invariant-loop-k
invariant-loop-k l = Unit {0}
