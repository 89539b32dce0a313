-- A record refused is refused; of one that passed the list is judged on its task.
use mathlib.Core.Path.{◌≡◌, ◌∙◌, subst}
use mathlib.Core.Logic.{inl, inr}
use Rattle.planning.specs.Calls.{judge_call}
use Rattle.judge.specs.Answers.{answer_of}
use Rattle.judge.proofs.Entry.{judge_refused, judge_later}
use Rattle.judge.proofs.judge.Goals as goal
use Rattle.judge.proofs.judge.Goals.{After-with_task-answer}

judged : (c : After-with_task-answer) → answer_of c.with_task-answer.result ≡ judge_call c.args.bytes.now c.args.list.now
judged c =
    elim c.with_task-answer.ensures [
      | inl S ↦ rw S.answer' (judge_refused _ _ _ _ S.check)
      | inr R ↦ R.called ∙ judge_later _ _ R.accepted _ R.read.same
    ]

pub returns-in_default : goal.returns-in_default
returns-in_default c = judged (goal.at.returns-in_default c).After-with_task-answer

pub returns : goal.returns
returns c = subst (λ r. answer_of r ≡ judge_call c.args.bytes.now c.args.list.now) c.in-Err.is (judged (goal.at.returns c).After-with_task-answer)
