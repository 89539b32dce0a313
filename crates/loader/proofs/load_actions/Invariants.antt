-- The first i actions passed their checks and are loaded; the list goes on where they end.
use Rattle.record.proofs.Laws.{Behind}
use Rattle.loader.proofs.Loading.{Loading}
use Rattle.planning.specs.Record.{variable_bit}
use Rattle.loader.proofs.load_actions.Given as goal

abbrev pub invariant-loop-i : goal.invariant-loop-i
invariant-loop-i l = Loading l.bytes l.initial.task l.task l.at l.i l.to × Behind l.bytes (variable_bit l.variables) l.count l.at l.i
