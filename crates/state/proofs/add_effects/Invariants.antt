-- Effects are put into the sets one after the other.
use Rattle.sets.proofs.Slices.{Putting}
use Rattle.state.proofs.add_effects.Given as goal

abbrev pub invariant-loop-f : goal.invariant-loop-f
invariant-loop-f l = Putting l.effects l.initial.sets l.sets l.f-index
