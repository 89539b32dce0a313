-- The first i variables passed, and their counts of values stand in the list.
use Rattle.record.proofs.Laws.{Seen}
use Rattle.record.proofs.check_variables.Given as goal

abbrev pub invariant-loop-i : goal.invariant-loop-i
invariant-loop-i l = Seen l.bytes l.count l.counts l.i
