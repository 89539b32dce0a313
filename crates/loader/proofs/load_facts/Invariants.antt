-- The facts before the last `left` passed their checks and are loaded (`Filling`).
use Rattle.loader.proofs.Loading.{Filling}
use Rattle.loader.proofs.load_facts.Given as goal

abbrev pub invariant-loop-left : goal.invariant-loop-left
invariant-loop-left l = Filling l.bytes l.from l.count l.first l.initial.task l.task l.at l.low l.left l.to

abbrev pub decreases-loop-left : goal.decreases-loop-left
decreases-loop-left l = l.left
