use Rattle.planning.specs.Record.{variable_bit}
use Rattle.record.proofs.Laws.{there, variable_stops, variables_turn, variables_done, count_is, count_below}
use native.Mathlib.Omega.{arith}
use Rattle.laws.proofs.Fields.{bits_at_below}
use Rattle.record.proofs.check_variables.Goals as goal

pub returns-in_err-last-clause-answer : goal.returns-in_err-last-clause-answer
returns-in_err-last-clause-answer c = variable_stops _ _ _ _ c.loop-i.invariant _ _ c.from_residual.ensures.1 _ (omega arith) c.in_err-last.ensures

pub overflow_add-counts : goal.overflow_add-counts
overflow_add-counts c =
    record { fits = omega (arith, (there _ _ _ c.in_ok-last.ensures).1, bits_at_below c.args.bytes.now (variable_bit c.loop-i.i) 6) }

pub loop-i-preserved : goal.loop-i-preserved
loop-i-preserved c =
    let b = c.args.bytes.now in
    let i = c.loop-i.i in
    let q = there _ _ _ c.in_ok-last.ensures in
    variables_turn _ _ _ _ c.loop-i.invariant _ (omega arith) (omega arith) q.0 (omega (arith, count_is b i _ q.1, count_below b i))

pub returns : goal.returns
returns c = let d = variables_done _ _ _ _ c.loop-i.invariant (omega arith) in record { answer = d.0; counts = d.1 }
