-- Each fact before place k is in the state.
use lib.ListN.{length}
use Rattle.sets.specs.Sets.{sets_of}
use Rattle.waiting.specs.Waiting.{Passing}
use Rattle.waiting.proofs.unmet.Given as goal

abbrev pub invariant-loop-k : goal.invariant-loop-k
invariant-loop-k l = Passing (sets_of l.sets) l.facts l.from (length l.facts) l.k
