-- The heads have the first action from i on with the move to each black fact, and each such action has the next one behind it.
use Rattle.painting.proofs.Chains.{Linking}
use Rattle.painting.proofs.link_all.Given as goal

abbrev pub invariant-loop-i : goal.invariant-loop-i
invariant-loop-i l = Linking l.initial.task l.task l.i
