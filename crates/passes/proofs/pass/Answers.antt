use Rattle.std.proofs.Common.{◌/◌, arith}
use Rattle.std.specs.Prelude.{None, Some}
use lib.ListN.{drop}
use lib.Seq.{length-take-le}
use Rattle.laws.proofs.Fill.{asked_for_one}
use Rattle.task.specs.Task.{facts_of, task_in}
use Rattle.sets.specs.Sets.{sets_of}
use Rattle.asking.proofs.Putting.{asked_as, asked_fits, pre_fitting}
use Rattle.passes.specs.Passes.{served}
use Rattle.passes.proofs.Passing.{passing_entry, passing_end, tally_end, Led, led_long, led_turn, led_tally}
use Rattle.task.specs.Goals.{option_of}
use Rattle.passes.proofs.pass.Goals as goal
use Rattle.passes.proofs.pass.Goals.{After-lead_to}

led : (c : After-lead_to) → let a = c.args in let l = c.loop-j in
    let t = task_in a.arcs.now.task.now in let K = sets_of a.arcs.now.ever.now in let w = facts_of a.want.now in
    Led t K (a.f / 64) w (served t K a.f (drop a.at a.plan.now) w) a.plan.now l.plan l.memo l.c l.e l.j c.need-d.result c.lead_to.new.list
led c =
    record {
      start = c.loop-j.invariant.0;
      here = omega (arith, c.loop-j-test.true, c.loop-j.invariant.0.long);
      asks = asked_as _ _ _ _ _ c.from.ensures c.need-d.ensures;
      long = c.lead_to.auto.list;
    }

pub need-d-requires : goal.need-d-requires
need-d-requires c =
    (c.requires.prepared.0.loaded, omega (arith, passing_entry c.loop-j.invariant.0 (omega (arith, c.loop-j.invariant.0.long)), c.from.ensures))

pub lead_to-requires-clause-c_bound : goal.lead_to-requires-clause-c_bound
lead_to-requires-clause-c_bound c =
    let P = c.loop-j.invariant.0 in
    let fits = asked_fits _ _ (pre_fitting _ c.requires.prepared.0.loaded.formed _) _ _ c.need-d.ensures in
    (P.inside, fits, omega (arith, P.within, length-take-le c.loop-j.j c.loop-j.plan (omega (arith, c.loop-j-test.true, P.long))))

pub returns-in_err-x-clause-put : goal.returns-in_err-x-clause-put
returns-in_err-x-clause-put c = rw c.from_residual.ensures (led_long (led (goal.at.returns-in_err-x-clause-put c).After-lead_to) c.in_err-x.ensures.put)

pub overflow_add-searches : goal.overflow_add-searches
overflow_add-searches c =
    let one = asked_for_one (option_of c.need-d.result) in
    record { fits = omega (arith, c.loop-j.invariant.1.few, c.asked_for-searches.ensures, one, c.loop-j-test.true, c.loop-j.invariant.0.long, c.well_formed) }

pub loop-j-preserved : goal.loop-j-preserved
loop-j-preserved c =
    let L = led (goal.at.loop-j-preserved c).After-lead_to in (
      led_turn L _ c.in_ok-x.ensures.put c.requires.prepared.0.loaded.formed _ _ c.in_ok-x.ensures.memo c.next_value-c.ensures,
      led_tally L _ c.in_ok-x.ensures.put _ _ c.loop-j.invariant.1 _ c.asked_for-searches.ensures,
    )

pub overflow_add-searches-2 : goal.overflow_add-searches-2
overflow_add-searches-2 c =
    record { fits = omega (arith, c.loop-j.invariant.1.few, c.loop-j.invariant.0.at, c.asked_for-searches-2.ensures, asked_for_one (option_of c.asked-d.result), c.well_formed) }

pub returns-in_err-end-clause-put : goal.returns-in_err-end-clause-put
returns-in_err-end-clause-put c =
    rw c.from_residual-in_err-end.ensures (passing_end c.loop-j.invariant.0 (omega (arith, c.loop-j-test.false, c.loop-j.invariant.0.long)) _ c.asked-d.ensures c.lead_to-2.new.list None c.in_err-end.ensures.put)

pub returns-clause-put : goal.returns-clause-put
returns-clause-put c = passing_end c.loop-j.invariant.0 (omega (arith, c.loop-j-test.false, c.loop-j.invariant.0.long)) _ c.asked-d.ensures c.lead_to-2.new.list (Some c.in_ok-end.end) c.in_ok-end.ensures.put

pub returns-clause-searched : goal.returns-clause-searched
returns-clause-searched c = tally_end c.loop-j.invariant.0 (omega (arith, c.loop-j-test.false, c.loop-j.invariant.0.long)) _ c.asked-d.ensures _ _ c.loop-j.invariant.1 _ c.asked_for-searches-2.ensures
