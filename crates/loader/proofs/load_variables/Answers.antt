use Rattle.record.proofs.Laws.{variable_here, variables_turn, variables_done}
use Rattle.loader.proofs.Loading.{heading_turn, heading_done}
use mathlib.Core.Path.{sym, ◌∙◌}
use native.Mathlib.Omega.{arith}
use Rattle.loader.proofs.load_variables.Goals as goal

pub returns-in_err-counts : goal.returns-in_err-counts
returns-in_err-counts c =
    rw c.from_residual.ensures (λ e. c.in_err-counts.ensures (variable_here _ _ _ _ c.loop-v.invariant.1 (omega arith) e))

pub loop-v-preserved : goal.loop-v-preserved
loop-v-preserved c =
    let I = c.loop-v.invariant in
    let r = c.in_ok-counts.ensures in
    (heading_turn _ _ _ _ I.0 (omega arith) _ r.loaded, variables_turn _ _ _ _ I.1 _ (omega arith) (omega arith) r.passed r.values)

pub returns : goal.returns
returns c =
    let I = c.loop-v.invariant in
    let d = variables_done _ _ _ _ I.1 (omega arith) in
    record { long = I.0.long ∙ c.write_row.ensures.long; passed = sym d.0; loaded = heading_done _ _ _ _ I.0 (omega arith); values = d.1 }
