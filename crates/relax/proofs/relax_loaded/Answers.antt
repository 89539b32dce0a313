use mathlib.Core.Path.{sym, ◌∙◌}
use Rattle.std.proofs.lemmas.Result.{err_from_is_err_and}
use Rattle.answers.proofs.Stages.{check_passed, check_refused}
use Rattle.relax.proofs.Answers.{relax_unsolved, relax_whole, relax_short, relax_list_lem}
use Rattle.relax.proofs.relax_loaded.Goals as goal

pub returns-in_err-n-clause-answer : goal.returns-in_err-n-clause-answer
returns-in_err-n-clause-answer c =
    let p = err_from_is_err_and c.from_residual.result c.from_residual.ensures.1 in
    rw (p.1, p.2) (relax_unsolved _ _ _ c.in_err-n.ensures).0

pub returns-in_default-clause-answer : goal.returns-in_default-clause-answer
returns-in_default-clause-answer c =
    let F = c.in_ok-n.ensures in
    relax_whole _ _ F _ F.front.list (sym (check_passed _ _ _ c.in_default.is c.lay.ensures.0))

pub returns-in_default-clause-list : goal.returns-in_default-clause-list
returns-in_default-clause-list c =
    let F = c.in_ok-n.ensures in
    c.lay.ensures.1 ∙ relax_list_lem _ _ F _ F.front.list

pub returns-clause-answer : goal.returns-clause-answer
returns-clause-answer c =
    let F = c.in_ok-n.ensures in
    relax_short _ _ F _ F.front.list _ _ (sym (check_refused _ _ _ c.in-Err.is c.lay.ensures.0))
