-- The checks one by one: each field is there (`there`) or refuses (`stopped`), each test is decided by the code's.
use Rattle.record.proofs.Laws.{there, stopped, var_wrong, var_right, val_above, val_right}
use Rattle.answers.proofs.Stages.{skip, hit, pass_end}
use Rattle.planning.specs.Record.{fact_checks}
use Rattle.planning.specs.Basics.{done}
use mathlib.Core.Path.{sym, ap, ◌∙◌}
use Rattle.record.proofs.check_fact.Goals as goal

pub returns-in_err-v : goal.returns-in_err-v
unfolding fact_checks
returns-in_err-v c = stopped _ _ _ c.from_residual.ensures.1 _ _ _ _ c.in_err-v.ensures

pub returns-then-variables-v : goal.returns-then-variables-v
unfolding fact_checks
returns-then-variables-v c =
    let v = there _ _ _ c.in_ok-v.ensures in
    skip _ _ _ _ v.0 (hit _ _ _ _ _ (var_wrong _ _ _ _ _ c.requires.1.0 v.1 c.then-variables-v.either))

pub returns-in_err-value : goal.returns-in_err-value
unfolding fact_checks
returns-in_err-value c =
    let v = there _ _ _ c.in_ok-v.ensures in
    skip _ _ _ _ v.0 (skip _ _ _ _ (var_right _ _ _ _ _ c.requires.1.0 v.1 c.if-variables-v.false c.if-v-low.false)
    (stopped _ _ _ c.from_residual-in_err-value.ensures.1 _ _ _ _ c.in_err-value.ensures))

pub returns-then-variables-v-2 : goal.returns-then-variables-v-2
unfolding fact_checks
returns-then-variables-v-2 c =
    let v = there _ _ _ c.in_ok-v.ensures in
    let d = there _ _ _ c.in_ok-value.ensures in
    skip _ _ _ _ v.0 (skip _ _ _ _ (var_right _ _ _ _ _ c.requires.1.0 v.1 c.if-variables-v.false c.if-v-low.false)
    (skip _ _ _ _ d.0 (hit _ _ _ _ _ (val_above _ _ _ _ _ v.1 (c.requires.1.2.right _ c.if-variables-v.false) d.1 c.if-variables-v-2.true))))

pub returns : goal.returns
unfolding fact_checks
returns c =
    let v = there _ _ _ c.in_ok-v.ensures in
    let d = there _ _ _ c.in_ok-value.ensures in
    ap done (sym v.1) ∙ skip _ _ _ _ v.0 (skip _ _ _ _ (var_right _ _ _ _ _ c.requires.1.0 v.1 c.if-variables-v.false c.if-v-low.false)
    (skip _ _ _ _ d.0 (skip _ _ _ _ (val_right _ _ _ _ _ v.1 (c.requires.1.2.right _ c.if-variables-v.false) d.1 c.if-variables-v-2.false) (pass_end _))))
