use Rattle.std.proofs.Common.{ℕ, arith}
use Rattle.std.proofs.lemmas.List.{length-replicate}
use Rattle.std.proofs.lemmas.Result.{IfErr-at_err}
use Rattle.report.proofs.Answers.{told, written_refusal, kept_few, written}
use Rattle.report.proofs.write.Goals as goal

pub returns-in_default : goal.returns-in_default
returns-in_default c =
    let z = length-replicate {A = ℕ} 16384 0 in
    let asked = told _ _ _ _ _ _ z z z c.plan-answer.ensures.result_value c.plan-answer.ensures.plan_after in
    written_refusal _ _ _ asked _ c.in_default.is (IfErr-at_err _ c.in_default.is c.write_refusal.ensures)

pub put_runs-end-requires : goal.put_runs-end-requires
put_runs-end-requires c =
    let z = length-replicate {A = ℕ} 16384 0 in
    let asked = told _ _ _ _ _ _ z z z c.plan-answer.ensures.result_value c.plan-answer.ensures.plan_after in
    (kept_few _ _ _ asked _ c.in-Ok.is _ (omega (arith, z)), omega arith)

pub returns : goal.returns
returns c =
    let z = length-replicate {A = ℕ} 16384 0 in
    let asked = told _ _ _ _ _ _ z z z c.plan-answer.ensures.result_value c.plan-answer.ensures.plan_after in
    written _ _ _ asked _ c.in-Ok.is _ _ _ c.put_runs-end.ensures.0 c.put_result.ensures (omega (arith, z)) c.front-steps.ensures.0 c.running-runs.ensures
