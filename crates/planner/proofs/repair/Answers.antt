-- As the planner, with the caller's list for the relaxed plan.
use mathlib.Core.Path.{◌≡◌}
use lib.ListN.{length}
use Rattle.planning.specs.Record.{task_of}
use Rattle.planning.specs.Repair.{repaired, marks}
use Rattle.planning.specs.Calls.{repair_call, repair_list, repair_marks, plan_in, marks_in}
use Rattle.planning.specs.Existence.{Bounded, Ceiling, Recovers}
use Rattle.answers.specs.Plans.{answer_of}
use Rattle.planner.proofs.Drafts.{Ended, repair_called}
use Rattle.planner.proofs.Settled.{repair_settled, blanked}
use Rattle.planner.proofs.repair.Goals as goal
use Rattle.planner.proofs.repair.Goals.{After-repair_record-r, After-finish}

ended : (c : After-repair_record-r) → let s = c.args.bytes.now in let n = length c.args.plan.now in let w = length c.args.work.now in let m = length c.args.marks.now in let t = task_of s in
    Ended (repair_call s c.args.list.now n w m) (repaired t c.args.list.now) (marks t c.args.list.now) c.repair_record-r.new.plan c.repair_record-r.new.marks c.repair_record-r.result
ended c =
    let n = length c.args.plan.now in
    let w = length c.args.work.now in
    let m = length c.args.marks.now in
    repair_called c.args.bytes.now c.args.list.now n w m _ _ _ c.repair_record-r.ensures

settled : (c : After-finish) → let s = c.args.bytes.now in let n = length c.args.plan.now in let w = length c.args.work.now in let m = length c.args.marks.now in let r = c.repair_record-r.result in let k = c.args.list.now in
    Ended (repair_call s c.args.list.now n w m) (repaired (task_of s) c.args.list.now) (marks (task_of s) c.args.list.now) c.repair_record-r.new.plan c.repair_record-r.new.marks r → (c.finish.new.plan ≡ repair_list s k n w m) × (c.finish.new.marks ≡ repair_marks s k n w m)
    × Bounded s k (answer_of r) (plan_in (answer_of r) c.finish.new.plan) × Ceiling s k (answer_of r)
    × Recovers s k (answer_of r) (plan_in (answer_of r) c.finish.new.plan) (marks_in (answer_of r) c.finish.new.marks)
settled c D =
    let n = length c.args.plan.now in
    let w = length c.args.work.now in
    let m = length c.args.marks.now in
    repair_settled c.args.bytes.now c.args.list.now n w m _ _ _ _ c.repair_record-r.auto.plan c.repair_record-r.auto.marks _ D (record { list = c.finish.ensures.plan_after; bytes = c.finish.ensures.marks_after })

pub returns-clause-result_value : goal.returns-clause-result_value
returns-clause-result_value c = (ended (goal.at.returns-clause-result_value c).After-repair_record-r).answer

pub returns-clause-work_after : goal.returns-clause-work_after
returns-clause-work_after c = blanked _ _ c.blank.ensures

pub returns-clause-plan_after : goal.returns-clause-plan_after
returns-clause-plan_after c = (settled (goal.at.returns-clause-plan_after c).After-finish (ended (goal.at.returns-clause-plan_after c).After-repair_record-r)).0

pub returns-clause-marks_after : goal.returns-clause-marks_after
returns-clause-marks_after c = (settled (goal.at.returns-clause-marks_after c).After-finish (ended (goal.at.returns-clause-marks_after c).After-repair_record-r)).1

pub returns-clause-bounded : goal.returns-clause-bounded
returns-clause-bounded c = (settled (goal.at.returns-clause-bounded c).After-finish (ended (goal.at.returns-clause-bounded c).After-repair_record-r)).2

pub returns-clause-ceiling : goal.returns-clause-ceiling
returns-clause-ceiling c = (settled (goal.at.returns-clause-ceiling c).After-finish (ended (goal.at.returns-clause-ceiling c).After-repair_record-r)).3

pub returns-clause-recovers : goal.returns-clause-recovers
returns-clause-recovers c = (settled (goal.at.returns-clause-recovers c).After-finish (ended (goal.at.returns-clause-recovers c).After-repair_record-r)).4
