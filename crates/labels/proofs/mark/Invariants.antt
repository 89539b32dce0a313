-- The members of the set are taken from the least on; those still to come stand as they were, the others are noted.
use Rattle.labels.proofs.Marking.{Marking}
use Rattle.labels.proofs.mark.Given as goal

abbrev pub invariant-loop-c : goal.invariant-loop-c
invariant-loop-c l = Marking l.initial.labels l.labels l.set l.l l.c-iterator.rest
