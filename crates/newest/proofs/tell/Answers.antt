-- A record refused is refused; of one that passed the rest of the checks say.
use mathlib.Core.Path.{sym, subst}
use mathlib.Core.Logic.{inl, inr}
use Rattle.newest.specs.Answers.{Called}
use Rattle.newest.proofs.Boards.{record_refused, record_passed}
use Rattle.newest.proofs.tell.Goals as goal
use Rattle.newest.proofs.tell.Goals.{After-with_task-answer}

told : (c : After-with_task-answer) → Called c.args.bytes.now c.args.list.now c.args.room c.with_task-answer.result
told c =
    elim c.with_task-answer.ensures [
      | inl S ↦ subst (Called _ _ _) (sym S.answer') (record_refused _ _ _ _ S.check)
      | inr R ↦ record_passed _ _ _ R.accepted _ R.read.same _ R.called
    ]

pub returns-in_default : goal.returns-in_default
returns-in_default c = told (goal.at.returns-in_default c).After-with_task-answer

pub returns : goal.returns
returns c = subst (Called _ _ _) c.in-Err.is (told (goal.at.returns c).After-with_task-answer)
