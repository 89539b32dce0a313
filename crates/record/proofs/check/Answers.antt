-- Field by field: what passed leaves the rest to say (`past_edition` and the like), and what does not is the answer.
use Rattle.record.proofs.Laws.{there, stopped_check, over, held, edition_wrong, range_wrong, count_above, record_check_is, past_edition, past_count, past_actions}
use Rattle.record.proofs.Laws.{no_counts_lem, variables_refused, variables_passed, actions_refused, actions_passed, actions_end_lem}
use Rattle.record.proofs.Laws.{from_variable_count, from_action_count}
use Rattle.planning.specs.Record.{variables_in, actions_in, record_check}
use Rattle.planning.specs.Basics.{Check, in_order}
use mathlib.Core.Path.{◌≡◌, refl, sym}
use Rattle.record.proofs.check.Goals as goal
use Rattle.record.proofs.check.Goals.{Else-edition-ne1, Else-count-gt64, Else-actions-gt1024}

pub returns-in_err-edition : goal.returns-in_err-edition
returns-in_err-edition c = rw record_check_is (stopped_check _ _ c.from_residual.ensures.1 _ _ _ c.in_err-edition.ensures)

pub returns-then-edition-ne1 : goal.returns-then-edition-ne1
returns-then-edition-ne1 c =
    let e = there _ _ _ c.in_ok-edition.ensures in
    rw record_check_is (over _ _ _ e.0 (held _ _ _ _ (edition_wrong _ _ _ _ e.1 c.if-edition-ne1.true)))

pub returns-in_err-count : goal.returns-in_err-count
unfolding from_variable_count
returns-in_err-count c =
    past_edition _ _ _ c.in_ok-edition.ensures c.if-edition-ne1.false (stopped_check _ _ c.from_residual-in_err-count.ensures.1 _ _ _ c.in_err-count.ensures)

pub returns-then-count-lt1 : goal.returns-then-count-lt1
unfolding from_variable_count variables_in
returns-then-count-lt1 c =
    let n = there _ _ _ c.in_ok-count.ensures in
    past_edition _ _ _ c.in_ok-edition.ensures c.if-edition-ne1.false (over _ _ _ n.0 (held _ _ _ _ (range_wrong _ _ _ _ n.1 c.then-count-lt1.either)))

-- behind the two counts
counted : (c : Else-count-gt64) (x : Check) → x ≡ in_order (from_action_count c.args.bytes.now) → x ≡ record_check c.args.bytes.now
counted c x r = past_edition _ _ _ c.in_ok-edition.ensures c.if-edition-ne1.false (past_count _ _ _ c.in_ok-count.ensures c.if-count-lt1.false c.if-count-gt64.false r)

pub returns-in_err-actions : goal.returns-in_err-actions
unfolding from_action_count
returns-in_err-actions c =
    counted (goal.at.returns-in_err-actions c).Else-count-gt64 _ (stopped_check _ _ c.from_residual-in_err-actions.ensures.1 _ _ _ c.in_err-actions.ensures)

pub returns-then-actions-gt1024 : goal.returns-then-actions-gt1024
unfolding from_action_count actions_in
returns-then-actions-gt1024 c =
    let a = there _ _ _ c.in_ok-actions.ensures in
    counted (goal.at.returns-then-actions-gt1024 c).Else-count-gt64 _ (over _ _ _ a.0 (held _ _ _ _ (count_above _ _ _ _ a.1 c.if-actions-gt1024.true)))

pub check_variables-requires : goal.check_variables-requires
check_variables-requires c = (c.if-count-gt64.false, refl, no_counts_lem _ 64)

pub returns-in_err-check_variables : goal.returns-in_err-check_variables
unfolding variables_in
returns-in_err-check_variables c =
    counted (goal.at.returns-in_err-check_variables c).Else-count-gt64 _ (past_actions _ _ _ c.in_ok-actions.ensures c.if-actions-gt1024.false
    (variables_refused _ _ (sym (there _ _ _ c.in_ok-count.ensures).1) _ _ c.from_residual-in_err-check_variables.ensures.1 c.in_err-check_variables.ensures.answer))

pub check_actions-requires : goal.check_actions-requires
unfolding variables_in
check_actions-requires c =
    (c.if-actions-gt1024.false, (sym (there _ _ _ c.in_ok-count.ensures).1, c.if-count-gt64.false, c.in_ok-check_variables.ensures.counts))

pub returns-in_err-end : goal.returns-in_err-end
unfolding variables_in actions_in
returns-in_err-end c =
    let n = sym (there _ _ _ c.in_ok-count.ensures).1 in
    counted (goal.at.returns-in_err-end c).Else-count-gt64 _ (past_actions _ _ _ c.in_ok-actions.ensures c.if-actions-gt1024.false
    (variables_passed _ _ n _ (sym c.in_ok-check_variables.ensures.answer)
    (actions_refused _ _ _ n (sym (there _ _ _ c.in_ok-actions.ensures).1) _ _ c.from_residual-in_err-end.ensures.1 _ c.in_err-end.ensures)))

pub check_end-requires : goal.check_end-requires
unfolding variables_in actions_in
check_end-requires c =
    actions_end_lem _ _ _ (sym (there _ _ _ c.in_ok-count.ensures).1) (sym (there _ _ _ c.in_ok-actions.ensures).1) _ c.if-count-gt64.false c.if-actions-gt1024.false
    (there _ _ _ c.in_ok-end.ensures).1

pub returns : goal.returns
unfolding variables_in actions_in
returns c =
    let n = sym (there _ _ _ c.in_ok-count.ensures).1 in
    counted (goal.at.returns c).Else-count-gt64 _ (past_actions _ _ _ c.in_ok-actions.ensures c.if-actions-gt1024.false
    (variables_passed _ _ n _ (sym c.in_ok-check_variables.ensures.answer)
    (actions_passed _ _ _ n (sym (there _ _ _ c.in_ok-actions.ensures).1) _ (there _ _ _ c.in_ok-end.ensures).0 c.check_end.ensures)))
