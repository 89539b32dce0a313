-- What the first achievers of the facts to come and the set hold together stays the same.
use Rattle.extraction.proofs.Keeping.{Adding}
use Rattle.extraction.proofs.want.Given as goal

abbrev pub invariant-loop-f : goal.invariant-loop-f
invariant-loop-f l = Adding l.first l.facts l.initial.wanted l.wanted l.f-index
