-- As for the planner: the answer that C reads off the result is the call's.
use mathlib.Core.Path.{subst}
use lib.ListN.{length}
use Rattle.planning.specs.Calls.{plan_in, marks_in}
use Rattle.planning.specs.Existence.{Bounded, Ceiling, Recovers}
use Rattle.answers.specs.Plans.{answer_of}
use Rattle.mardiskos.proofs.Numbers.{repair_read}
use Rattle.mardiskos.proofs.plans.mardiskos_repair.Goals as goal

pub returns : goal.returns
returns c =
    let a = c.args in
    let s = a.bytes.now in
    let k = a.list.now in
    let n = length a.plan.now in
    let w = length a.work.now in
    let m = length a.marks.now in
    let E = c.repair.ensures in
    let l = c.repair.new.plan in
    let ms = c.repair.new.marks in
    let R = repair_read s k n w m (answer_of c.repair.result) c.flat.result E.result_value c.flat.ensures in
    record {
      value = R.0;
      plan_after = E.plan_after;
      work_after = E.work_after;
      marks_after = E.marks_after;
      bounded = subst (λ x. Bounded s k x (plan_in x l)) R.1 E.bounded;
      ceiling = subst (Ceiling s k) R.1 E.ceiling;
      recovers = subst (λ x. Recovers s k x (plan_in x l) (marks_in x ms)) R.1 E.recovers;
    }
