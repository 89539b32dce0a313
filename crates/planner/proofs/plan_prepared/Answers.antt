-- The task's own relaxed plan is found and repaired, or there is none.
use mathlib.Core.Bool.{false}
use mathlib.Core.List.{[]}
use mathlib.Core.Path.{◌≡◌, refl, ◌∙◌}
use lib.ListN.{take}
use Rattle.planning.specs.Relaxed.{relaxed_plan}
use Rattle.laws.proofs.Achievers.{relaxed_plan_is_plan}
use Rattle.task.specs.Task.{task_in}
use Rattle.planner.proofs.Drafts.{drafted_stop, own_check, own_source, sourced, unfound_check, found_check}
use Rattle.planner.proofs.plan_prepared.Goals as goal
use Rattle.planner.proofs.plan_prepared.Goals.{After-unwrap_or-count}

-- the steps counted are those found
front : (c : After-unwrap_or-count) → take c.unwrap_or-count.result c.relaxed_plan-found.new.plan ≡ relaxed_plan (task_in c.args.task.now)
front c = rw (c.unwrap_or-count.ensures, c.in_default.is) c.in_default.ensures.front.list

pub draft-requires : goal.draft-requires
draft-requires c =
    let t = task_in c.args.task.now in
    (c.requires, rw (front (goal.at.draft-requires c).After-unwrap_or-count) (relaxed_plan_is_plan t c.requires.loaded.formed c.in_default.ensures.solved))

pub returns-in_default : goal.returns-in_default
returns-in_default c =
    let t = task_in c.args.task.now in
    let e = front (goal.at.returns-in_default c).After-unwrap_or-count in
    sourced t [] false _ _ _ _ _ (e ∙ own_source t [] false refl) (own_check t [] false refl ∙ found_check t c.in_default.ensures.solved) c.draft.ensures

pub returns : goal.returns
returns c =
    let t = task_in c.args.task.now in
    drafted_stop t _ _ _ _ _ _ _ (own_check t [] false refl ∙ unfound_check t _ c.in-Err.ensures)
