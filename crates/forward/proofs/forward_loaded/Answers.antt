use mathlib.Core.Path.{◌≡◌, sym, ◌∙◌}
use native.Mathlib.Omega.{arith}
use Rattle.planning.specs.Relaxed.{facts_reached}
use Rattle.laws.proofs.Sizes.{facts_reached_le}
use Rattle.answers.proofs.Stages.{check_passed, check_refused}
use Rattle.task.specs.Task.{task_in}
use Rattle.forward.proofs.Answers.{reached_facts, forward_unsolved, forward_whole, forward_short, forward_list_lem}
use Rattle.forward.proofs.forward_loaded.Goals as goal
use Rattle.forward.proofs.forward_loaded.Goals.{After-reached-reached}

reached_is : (c : After-reached-reached) → c.reached-reached.result ≡ facts_reached (task_in c.args.task.now)
reached_is c = c.reached-reached.ensures ∙ reached_facts _ c.requires.formed _ c.run_forward-ran.ensures.state

pub overflow_cast-reached : goal.overflow_cast-reached
overflow_cast-reached c = record { fits = omega (arith, reached_is c, facts_reached_le _ c.requires.formed) }

pub returns-then-not-ran-clause-answer : goal.returns-then-not-ran-clause-answer
returns-then-not-ran-clause-answer c =
    (forward_unsolved _ _ _ c.run_forward-ran.ensures.solved _ (reached_is (goal.at.returns-then-not-ran-clause-answer c).After-reached-reached) c.if-not-ran.true).0

pub returns-in_default-clause-answer : goal.returns-in_default-clause-answer
returns-in_default-clause-answer c =
    let R = c.run_forward-ran.ensures in
    forward_whole _ _ _ R.solved _ (reached_is (goal.at.returns-in_default-clause-answer c).After-reached-reached) c.if-not-ran.false _ R.list _ R.steps
    (sym (check_passed _ _ _ c.in_default.is c.lay.ensures.0))

pub returns-in_default-clause-list : goal.returns-in_default-clause-list
returns-in_default-clause-list c =
    let R = c.run_forward-ran.ensures in
    c.lay.ensures.1 ∙ forward_list_lem _ _ _ R.solved _ (reached_is (goal.at.returns-in_default-clause-list c).After-reached-reached) c.if-not-ran.false _ R.list

pub returns-clause-answer : goal.returns-clause-answer
returns-clause-answer c =
    let R = c.run_forward-ran.ensures in
    forward_short _ _ _ R.solved _ (reached_is (goal.at.returns-clause-answer c).After-reached-reached) c.if-not-ran.false _ R.list _ _
    (sym (check_refused _ _ _ c.in-Err.is c.lay.ensures.0))
