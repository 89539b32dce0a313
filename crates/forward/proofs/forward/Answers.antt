-- The record is refused, or its task is run; a refusal leaves a blank list.
use mathlib.Core.Path.{◌≡◌, sym, ap, ◌∙◌, subst}
use mathlib.Core.Logic.{inl, inr}
use lib.ListN.{length, replicate}
use borrow.Author.Rules.{rules}
use Rattle.std.specs.Prelude.{OnOk}
use Rattle.std.specs.Result.{is_err}
use Rattle.planning.specs.Calls.{forward_call}
use Rattle.task.specs.Task.{task_in}
use Rattle.forward.specs.Answers.{found_of, forward_of, forward_in}
use Rattle.forward.proofs.Answers.{forward_refused, forward_accepts, forward_blank, of_ok}
use Rattle.forward.proofs.forward.Goals as goal
use Rattle.forward.proofs.forward.Goals.{After-with_task-answer}

told : (c : After-with_task-answer) → found_of c.with_task-answer.result ≡ forward_call c.args.bytes.now (length c.args.plan.now)
told c = elim c.with_task-answer.ensures [
  | inl S ↦ rw S.answer' (forward_refused _ _ _ _ (sym S.check)).0
  | inr R ↦
      let e : found_of c.with_task-answer.result ≡ forward_of (task_in R.task.now) (length R.list.now) = search rules in
      e ∙ ap (λ l. forward_of (task_in R.task.now) (length l)) R.list_is ∙ (forward_accepts _ _ R.accepted _ R.read.same).0
]

pub returns : goal.returns
returns c =
    let e = told (goal.at.returns c).After-with_task-answer in (
      subst (λ r. found_of r ≡ forward_call c.args.bytes.now (length c.args.plan.now)) c.in-Err.is e,
      c.blank.ensures ∙ ap (λ n. replicate n 65535) c.with_task-answer.auto.list ∙ forward_blank _ _ _ (ap is_err c.in-Err.is) e,
    )

pub returns-in_default : goal.returns-in_default
returns-in_default c =
    let ok = ap is_err c.in_default.is in (
      told (goal.at.returns-in_default c).After-with_task-answer,
      elim c.with_task-answer.ensures [
        | inl S ↦ let z = rw S.answer' at ok in cc
        | inr R ↦
            let h : OnOk c.with_task-answer.result (R.list'.now ≡ forward_in (task_in R.task.now) (length R.list.now)) = search rules in
            sym R.list_new ∙ of_ok _ ok h ∙ ap (λ l. forward_in (task_in R.task.now) (length l)) R.list_is ∙ (forward_accepts _ _ R.accepted _ R.read.same).1
      ],
    )
