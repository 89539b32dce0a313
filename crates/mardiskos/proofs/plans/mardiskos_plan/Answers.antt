-- What the planner says of its answer it says of the answer that C reads off the result, as the two are the same.
use mathlib.Core.Path.{subst}
use lib.ListN.{length}
use Rattle.planning.specs.Calls.{plan_in, marks_in}
use Rattle.planning.specs.Existence.{Demand3, Bounded, Ceiling, Recovers}
use Rattle.planning.specs.Record.{task_of}
use Rattle.planning.specs.Relaxed.{relaxed_plan}
use Rattle.answers.specs.Plans.{answer_of}
use Rattle.mardiskos.proofs.Numbers.{plan_read}
use Rattle.mardiskos.proofs.plans.mardiskos_plan.Goals as goal

pub returns : goal.returns
returns c =
    let a = c.args in
    let s = a.bytes.now in
    let k = relaxed_plan (task_of s) in
    let n = length a.plan.now in
    let w = length a.work.now in
    let m = length a.marks.now in
    let E = c.plan.ensures in
    let l = c.plan.new.plan in
    let ms = c.plan.new.marks in
    let R = plan_read s n w m (answer_of c.plan.result) c.flat.result E.result_value c.flat.ensures in
    record {
      value = R.0;
      plan_after = E.plan_after;
      work_after = E.work_after;
      marks_after = E.marks_after;
      demand3 = subst (λ x. Demand3 s n w m x (plan_in x l)) R.1 E.demand3;
      bounded = subst (λ x. Bounded s k x (plan_in x l)) R.1 E.bounded;
      ceiling = subst (Ceiling s k) R.1 E.ceiling;
      recovers = subst (λ x. Recovers s k x (plan_in x l) (marks_in x ms)) R.1 E.recovers;
    }
