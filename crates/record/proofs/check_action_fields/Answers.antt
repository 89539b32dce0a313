use Prim.Native.Nat.{◌+◌}
use Rattle.record.proofs.Laws.{there, stopped, pre_refused, eff_answer}
use Rattle.answers.proofs.Stages.{skip}
use Rattle.record.proofs.Laws.{action_facts_checks}
use Rattle.planning.specs.Record.{action_checks, preconditions_in, effects_in}
use native.Mathlib.Omega.{arith}
use mathlib.Core.Path.{sym}
use Rattle.laws.proofs.Fields.{bits_at_below}
use Rattle.record.proofs.check_action_fields.Goals as goal

pub returns-in_err-take : goal.returns-in_err-take
unfolding action_checks
returns-in_err-take c = stopped _ _ _ c.from_residual.ensures.1 _ _ _ _ c.in_err-take.ensures

pub returns-in_err-pre : goal.returns-in_err-pre
unfolding action_checks
returns-in_err-pre c =
    skip _ _ _ _ (there _ _ _ c.in_ok-take.ensures).0 (stopped _ _ _ c.from_residual-in_err-pre.ensures.1 _ _ _ _ c.in_err-pre.ensures)

pub returns-in_err-eff : goal.returns-in_err-eff
unfolding action_checks
returns-in_err-eff c =
    skip _ _ _ _ (there _ _ _ c.in_ok-take.ensures).0 (skip _ _ _ _ (there _ _ _ c.in_ok-pre.ensures).0
    (stopped _ _ _ c.from_residual-in_err-eff.ensures.1 _ _ _ _ c.in_err-eff.ensures))

pub check_facts-requires : goal.check_facts-requires
check_facts-requires c =
    (omega arith, omega (arith, (there _ _ _ c.in_ok-pre.ensures).1, bits_at_below c.args.bytes.now (c.args.at + 16) 4), c.requires.1)

pub returns-in_err-mid : goal.returns-in_err-mid
unfolding action_checks action_facts_checks preconditions_in
returns-in_err-mid c =
    let p = there _ _ _ c.in_ok-pre.ensures in
    skip _ _ _ _ (there _ _ _ c.in_ok-take.ensures).0 (skip _ _ _ _ p.0 (skip _ _ _ _ (there _ _ _ c.in_ok-eff.ensures).0
    (pre_refused _ _ _ (sym p.1) _ _ c.from_residual-in_err-mid.ensures.1 _ _ c.in_err-mid.ensures)))

pub check_facts-requires-2 : goal.check_facts-requires-2
check_facts-requires-2 c =
    let p = there _ _ _ c.in_ok-pre.ensures in
    let e = there _ _ _ c.in_ok-eff.ensures in (
      omega (arith, (there _ _ _ c.in_ok-mid.ensures).1, p.1, bits_at_below c.args.bytes.now (c.args.at + 16) 4),
      omega (arith, e.1, bits_at_below c.args.bytes.now (c.args.at + 20) 4),
      c.requires.1,
    )

pub returns : goal.returns
unfolding action_checks action_facts_checks preconditions_in effects_in
returns c =
    let p = there _ _ _ c.in_ok-pre.ensures in
    let e = there _ _ _ c.in_ok-eff.ensures in
    skip _ _ _ _ (there _ _ _ c.in_ok-take.ensures).0 (skip _ _ _ _ p.0 (skip _ _ _ _ e.0
    (eff_answer _ _ _ (sym p.1) _ _ _ (sym e.1) (there _ _ _ c.in_ok-mid.ensures) c.check_facts-2.ensures)))
