-- What is to stand in the list is what stands there with i in the places of the effects from the next one on.
use Rattle.achievers.proofs.Achievers.{Noting}
use Rattle.achievers.proofs.note.Given as goal

abbrev pub invariant-loop-f : goal.invariant-loop-f
invariant-loop-f l = Noting l.f-items l.i l.initial.first l.first l.f-index
