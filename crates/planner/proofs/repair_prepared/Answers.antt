-- The caller's list passes its checks and is repaired, or their refusal is handed on.
use mathlib.Core.Bool.{true}
use mathlib.Core.Path.{refl, ◌∙◌}
use Rattle.laws.proofs.Checks.{in_order_passed}
use Rattle.laws.proofs.Calls.{relaxed_check_none}
use Rattle.answers.proofs.Stages.{passed, handed_on}
use Rattle.task.specs.Task.{task_in}
use Rattle.planner.proofs.Drafts.{drafted_stop, given_check, given_source, sourced}
use Rattle.planner.proofs.repair_prepared.Goals as goal

pub draft-requires : goal.draft-requires
draft-requires c =
    let p = (passed (λ v. v) _ _ _ _ c.in_default.is c.check_relaxed.ensures).0 in
    (c.requires, relaxed_check_none (task_in c.args.task.now) c.args.list.now (in_order_passed _ p).1.0)

pub returns-in_default : goal.returns-in_default
returns-in_default c =
    let t = task_in c.args.task.now in
    let l = c.args.list.now in
    let p = (passed (λ v. v) _ _ _ _ c.in_default.is c.check_relaxed.ensures).0 in
    sourced t l true _ _ _ _ _ (given_source t l true refl) (given_check t l true refl ∙ p) c.draft.ensures

pub returns : goal.returns
returns c =
    let t = task_in c.args.task.now in
    let told = handed_on (λ v. v) _ _ _ _ c.in-Err.is c.check_relaxed.ensures in
    drafted_stop t _ _ _ _ _ _ _ (given_check t c.args.list.now true refl ∙ told)
