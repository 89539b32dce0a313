use mathlib.Core.Bool.{false}
use mathlib.Core.List.{[]}
use Rattle.answers.proofs.Stages.{check_passed, check_refused}
use Rattle.task.specs.Task.{task_in}
use Rattle.planner.specs.Drafts.{painting_check}
use Rattle.planner.proofs.Drafts.{drafted_stop, painted}
use Rattle.planner.proofs.plan_loaded.Goals as goal

pub returns-in_default : goal.returns-in_default
unfolding painting_check
returns-in_default c =
    let passes = check_passed _ _ _ c.in_default.is c.prepare.ensures.answer in
    painted false (task_in c.args.task.now) _ c.prepare.ensures.same [] _ _ _ _ passes c.plan_prepared.ensures

pub returns : goal.returns
unfolding painting_check
returns c = drafted_stop (task_in c.args.task.now) _ _ _ _ _ _ _ (check_refused _ _ _ c.in-Err.is c.prepare.ensures.answer)
