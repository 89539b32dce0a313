-- After k turns the rows are the ways whose inner variables are below k.
use Rattle.cycles.proofs.Ways.{Closing}
use Rattle.cycles.proofs.closure.Given as goal

abbrev pub invariant-loop-k : goal.invariant-loop-k
invariant-loop-k l = Closing l.n l.initial.rows l.rows l.k
