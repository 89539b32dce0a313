-- The first `counter` actions passed, and the next one stands where they end; the checks that are left are those of the others.
use Rattle.planning.specs.Record.{variable_bit}
use Rattle.record.proofs.Laws.{Behind}
use Rattle.record.proofs.check_actions.Given as goal

abbrev pub invariant-loop : goal.invariant-loop
invariant-loop l = Behind l.bytes (variable_bit l.variables.count) l.count l.at l.counter
