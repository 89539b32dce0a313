-- The variables before v passed their checks; their rows are written, and their counts of values noted.
use Rattle.record.proofs.Laws.{Seen}
use Rattle.planning.specs.Record.{variables_in}
use Rattle.loader.proofs.Loading.{Heading}
use Rattle.loader.proofs.load_variables.Given as goal

abbrev pub invariant-loop-v : goal.invariant-loop-v
invariant-loop-v l = Heading l.bytes l.initial.task l.task l.v × Seen l.bytes (variables_in l.bytes) l.counts l.v
