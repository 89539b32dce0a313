-- The record is refused, or its task is run; a refusal leaves a blank list.
use mathlib.Core.Path.{◌≡◌, sym, ap, ◌∙◌, subst}
use mathlib.Core.Logic.{inl, inr}
use lib.ListN.{length, replicate}
use borrow.Author.Rules.{rules}
use Rattle.std.specs.Prelude.{OnOk}
use Rattle.std.specs.Result.{is_err}
use Rattle.planning.specs.Calls.{relax_call}
use Rattle.task.specs.Task.{task_in}
use Rattle.answers.specs.Answers.{value_of}
use Rattle.relax.specs.Answers.{relax_of, relax_in}
use Rattle.forward.proofs.Answers.{of_ok}
use Rattle.relax.proofs.Answers.{relax_refused, relax_accepts, relax_blank}
use Rattle.relax.proofs.relax.Goals as goal
use Rattle.relax.proofs.relax.Goals.{After-with_task-answer}

told : (c : After-with_task-answer) → value_of c.with_task-answer.result ≡ relax_call c.args.bytes.now (length c.args.plan.now)
told c = elim c.with_task-answer.ensures [
  | inl S ↦ rw S.answer' (relax_refused _ _ _ _ (sym S.check)).0
  | inr R ↦
      let e : value_of c.with_task-answer.result ≡ relax_of (task_in R.task.now) (length R.list.now) = search rules in
      e ∙ ap (λ l. relax_of (task_in R.task.now) (length l)) R.list_is ∙ (relax_accepts _ _ R.accepted _ R.read.same).0
]

pub returns : goal.returns
returns c =
    let e = told (goal.at.returns c).After-with_task-answer in (
      subst (λ r. value_of r ≡ relax_call c.args.bytes.now (length c.args.plan.now)) c.in-Err.is e,
      c.blank.ensures ∙ ap (λ n. replicate n 65535) c.with_task-answer.auto.list ∙ relax_blank _ _ _ (ap is_err c.in-Err.is) e,
    )

pub returns-in_default : goal.returns-in_default
returns-in_default c =
    let ok = ap is_err c.in_default.is in (
      told (goal.at.returns-in_default c).After-with_task-answer,
      elim c.with_task-answer.ensures [
        | inl S ↦ let z = rw S.answer' at ok in cc
        | inr R ↦
            let h : OnOk c.with_task-answer.result (R.list'.now ≡ relax_in (task_in R.task.now) (length R.list.now)) = search rules in
            sym R.list_new ∙ of_ok _ ok h ∙ ap (λ l. relax_in (task_in R.task.now) (length l)) R.list_is ∙ (relax_accepts _ _ R.accepted _ R.read.same).1
      ],
    )
