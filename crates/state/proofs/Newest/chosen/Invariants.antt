-- Effects set newest values one after the other.
use Rattle.state.proofs.Renewing.{Renewing}
use Rattle.state.proofs.Newest.chosen.Given as goal

abbrev pub invariant-loop-f : goal.invariant-loop-f
invariant-loop-f l = Renewing l.effects l.initial.values l.values l.f-index
