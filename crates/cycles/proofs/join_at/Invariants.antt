-- Rows below u are extended by row k, the others are as they were, and so is row k itself.
use Rattle.cycles.proofs.Ways.{Joining}
use Rattle.cycles.proofs.join_at.Given as goal

abbrev pub invariant-loop-u : goal.invariant-loop-u
invariant-loop-u l = Joining l.n l.k l.initial.rows l.onward l.rows l.u
