-- The record's checks, the painting's and the relaxed plan's decide the answer; the plan and its marks stand in front from then on, and the rest is filled.
use mathlib.Core.Path.{◌≡◌}
use mathlib.Core.List.{[]}
use lib.ListN.{length}
use Rattle.planning.specs.Record.{task_of}
use Rattle.planning.specs.Relaxed.{relaxed_plan}
use Rattle.planning.specs.Repair.{marks}
use Rattle.planning.specs.Calls.{plan_call, plan_list, plan_marks, plan_of, plan_in, marks_in}
use Rattle.planning.specs.Existence.{Demand3, Bounded, Ceiling, Recovers}
use Rattle.answers.specs.Plans.{answer_of}
use Rattle.planner.proofs.Drafts.{Ended, plan_called}
use Rattle.planner.proofs.Settled.{plan_settled, blanked}
use Rattle.planner.proofs.plan.Goals as goal
use Rattle.planner.proofs.plan.Goals.{After-plan_record-r, After-finish}

ended : (c : After-plan_record-r) → let s = c.args.bytes.now in let n = length c.args.plan.now in let w = length c.args.work.now in let m = length c.args.marks.now in let t = task_of s in
    Ended (plan_call s n w m) (plan_of t) (marks t (relaxed_plan t)) c.plan_record-r.new.plan c.plan_record-r.new.marks c.plan_record-r.result
ended c =
    let n = length c.args.plan.now in
    let w = length c.args.work.now in
    let m = length c.args.marks.now in
    plan_called c.args.bytes.now [] n w m _ _ _ c.plan_record-r.ensures

settled : (c : After-finish) → let s = c.args.bytes.now in let n = length c.args.plan.now in let w = length c.args.work.now in let m = length c.args.marks.now in let r = c.plan_record-r.result in let k = relaxed_plan (task_of s) in
    Ended (plan_call s n w m) (plan_of (task_of s)) (marks (task_of s) (relaxed_plan (task_of s))) c.plan_record-r.new.plan c.plan_record-r.new.marks r → (c.finish.new.plan ≡ plan_list s n w m) × (c.finish.new.marks ≡ plan_marks s n w m)
    × Demand3 s n w m (answer_of r) (plan_in (answer_of r) c.finish.new.plan)
    × Bounded s k (answer_of r) (plan_in (answer_of r) c.finish.new.plan) × Ceiling s k (answer_of r)
    × Recovers s k (answer_of r) (plan_in (answer_of r) c.finish.new.plan) (marks_in (answer_of r) c.finish.new.marks)
settled c D =
    let n = length c.args.plan.now in
    let w = length c.args.work.now in
    let m = length c.args.marks.now in
    plan_settled c.args.bytes.now n w m _ _ _ _ c.plan_record-r.auto.plan c.plan_record-r.auto.marks _ D (record { list = c.finish.ensures.plan_after; bytes = c.finish.ensures.marks_after })

pub returns-clause-result_value : goal.returns-clause-result_value
returns-clause-result_value c = (ended (goal.at.returns-clause-result_value c).After-plan_record-r).answer

pub returns-clause-work_after : goal.returns-clause-work_after
returns-clause-work_after c = blanked _ _ c.blank.ensures

pub returns-clause-plan_after : goal.returns-clause-plan_after
returns-clause-plan_after c = (settled (goal.at.returns-clause-plan_after c).After-finish (ended (goal.at.returns-clause-plan_after c).After-plan_record-r)).0

pub returns-clause-marks_after : goal.returns-clause-marks_after
returns-clause-marks_after c = (settled (goal.at.returns-clause-marks_after c).After-finish (ended (goal.at.returns-clause-marks_after c).After-plan_record-r)).1

pub returns-clause-demand3 : goal.returns-clause-demand3
returns-clause-demand3 c = (settled (goal.at.returns-clause-demand3 c).After-finish (ended (goal.at.returns-clause-demand3 c).After-plan_record-r)).2

pub returns-clause-bounded : goal.returns-clause-bounded
returns-clause-bounded c = (settled (goal.at.returns-clause-bounded c).After-finish (ended (goal.at.returns-clause-bounded c).After-plan_record-r)).3

pub returns-clause-ceiling : goal.returns-clause-ceiling
returns-clause-ceiling c = (settled (goal.at.returns-clause-ceiling c).After-finish (ended (goal.at.returns-clause-ceiling c).After-plan_record-r)).4

pub returns-clause-recovers : goal.returns-clause-recovers
returns-clause-recovers c = (settled (goal.at.returns-clause-recovers c).After-finish (ended (goal.at.returns-clause-recovers c).After-plan_record-r)).5
