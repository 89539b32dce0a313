-- The rows so far with the arcs from the facts still to come are the rows at the end.
use Rattle.graph.proofs.Rows.{Adding}
use Rattle.graph.proofs.add_arcs.Given as goal

abbrev pub invariant-loop-f : goal.invariant-loop-f
invariant-loop-f l = Adding l.facts l.targets l.paint l.initial.rows l.rows l.f-index
