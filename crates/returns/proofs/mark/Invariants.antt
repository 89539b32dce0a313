-- The marks so far with those of the facts still to come are the marks of all.
use Rattle.returns.proofs.Marks.{Marking}
use Rattle.returns.proofs.mark.Given as goal

abbrev pub invariant-loop-g : goal.invariant-loop-g
invariant-loop-g l = Marking l.facts l.f l.own l.initial.marks l.marks l.g-index
