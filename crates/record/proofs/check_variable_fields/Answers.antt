use Rattle.record.proofs.Laws.{there, stopped, variable_rest, value_above, value_right, bit_times, goal_above, goal_right}
use Rattle.answers.proofs.Stages.{skip, hit, pass_end}
use Rattle.planning.specs.Record.{variable_checks}
use Rattle.record.proofs.Laws.{initial_checks, goal_checks}
use Prim.Native.Nat.{◌+◌}
use native.Mathlib.Omega.{arith}
use Rattle.laws.proofs.Fields.{bits_at_below}
use Rattle.record.proofs.check_variable_fields.Goals as goal

pub returns-in_err-last : goal.returns-in_err-last
unfolding variable_checks
returns-in_err-last c = stopped _ _ _ c.from_residual.ensures.1 _ _ _ _ c.in_err-last.ensures

pub returns-in_err-take : goal.returns-in_err-take
unfolding variable_checks
returns-in_err-take c =
    skip _ _ _ _ (there _ _ _ c.in_ok-last.ensures).0 (stopped _ _ _ c.from_residual-in_err-take.ensures.1 _ _ _ _ c.in_err-take.ensures)

pub returns-in_err-initial : goal.returns-in_err-initial
unfolding initial_checks
returns-in_err-initial c =
    let l = there _ _ _ c.in_ok-last.ensures in
    variable_rest _ _ _ _ l.1 l.0 (there _ _ _ c.in_ok-take.ensures).0 (stopped _ _ _ c.from_residual-in_err-initial.ensures.1 _ _ _ _ c.in_err-initial.ensures)

pub returns-then-last-initial : goal.returns-then-last-initial
unfolding initial_checks
returns-then-last-initial c =
    let l = there _ _ _ c.in_ok-last.ensures in
    let i = there _ _ _ c.in_ok-initial.ensures in
    variable_rest _ _ _ _ l.1 l.0 (there _ _ _ c.in_ok-take.ensures).0 (skip _ _ _ _ i.0 (hit _ _ _ _ _ (value_above _ _ _ _ _ i.1 c.if-last-initial.true)))

pub returns-in_err-present : goal.returns-in_err-present
unfolding initial_checks goal_checks
returns-in_err-present c =
    let l = there _ _ _ c.in_ok-last.ensures in
    let i = there _ _ _ c.in_ok-initial.ensures in
    variable_rest _ _ _ _ l.1 l.0 (there _ _ _ c.in_ok-take.ensures).0
    (skip _ _ _ _ i.0 (skip _ _ _ _ (value_right _ _ _ _ _ i.1 c.if-last-initial.false) (stopped _ _ _ c.from_residual-in_err-present.ensures.1 _ _ _ _ c.in_err-present.ensures)))

pub returns-in_err-goal : goal.returns-in_err-goal
unfolding initial_checks goal_checks
returns-in_err-goal c =
    let l = there _ _ _ c.in_ok-last.ensures in
    let i = there _ _ _ c.in_ok-initial.ensures in
    variable_rest _ _ _ _ l.1 l.0 (there _ _ _ c.in_ok-take.ensures).0
    (skip _ _ _ _ i.0 (skip _ _ _ _ (value_right _ _ _ _ _ i.1 c.if-last-initial.false) (skip _ _ _ _ (there _ _ _ c.in_ok-present.ensures).0
    (stopped _ _ _ c.from_residual-in_err-goal.ensures.1 _ _ _ _ c.in_err-goal.ensures))))

pub overflow_mul-last : goal.overflow_mul-last
overflow_mul-last c =
    let s = c.args.bytes.now in
    let b = (there _ _ _ c.in_ok-present.ensures).1 in
    record {
      fits = omega (
        arith,
        (there _ _ _ c.in_ok-last.ensures).1,
        bits_at_below s c.args.at 6,
        bit_times c.in_ok-last.last c.in_ok-present.present (omega (arith, b, bits_at_below s (c.args.at + 13) 1)),
      );
    }

pub returns-then-last-present : goal.returns-then-last-present
unfolding initial_checks goal_checks
returns-then-last-present c =
    let l = there _ _ _ c.in_ok-last.ensures in
    let i = there _ _ _ c.in_ok-initial.ensures in
    let b = there _ _ _ c.in_ok-present.ensures in
    let g = there _ _ _ c.in_ok-goal.ensures in
    variable_rest _ _ _ _ l.1 l.0 (there _ _ _ c.in_ok-take.ensures).0
    (skip _ _ _ _ i.0 (skip _ _ _ _ (value_right _ _ _ _ _ i.1 c.if-last-initial.false) (skip _ _ _ _ b.0 (skip _ _ _ _ g.0
    (hit _ _ _ _ _ (goal_above _ _ _ _ _ b.1 g.1 c.if-last-present.true))))))

pub returns : goal.returns
unfolding initial_checks goal_checks
returns c =
    let l = there _ _ _ c.in_ok-last.ensures in
    let i = there _ _ _ c.in_ok-initial.ensures in
    let b = there _ _ _ c.in_ok-present.ensures in
    let g = there _ _ _ c.in_ok-goal.ensures in
    variable_rest _ _ _ _ l.1 l.0 (there _ _ _ c.in_ok-take.ensures).0
    (skip _ _ _ _ i.0 (skip _ _ _ _ (value_right _ _ _ _ _ i.1 c.if-last-initial.false) (skip _ _ _ _ b.0 (skip _ _ _ _ g.0
    (skip _ _ _ _ (goal_right _ _ _ _ _ b.1 g.1 c.if-last-present.false) (pass_end _))))))
