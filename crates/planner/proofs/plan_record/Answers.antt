-- The record is refused, or its task is planned.
use mathlib.Core.Logic.{inl, inr}
use mathlib.Core.Bool.{false}
use mathlib.Core.Path.{subst}
use mathlib.Core.List.{[]}
use borrow.Author.Rules.{rules}
use Rattle.task.specs.Task.{task_in}
use Rattle.repair.specs.Answers.{room_in}
use Rattle.planner.specs.Drafts.{Painted, Called}
use Rattle.planner.proofs.Drafts.{called_stopped, called_ran}
use Rattle.planner.proofs.plan_record.Goals as goal
use Rattle.planner.proofs.plan_record.Goals.{After-with_task-answer}

told : (c : After-with_task-answer) → Called false c.args.bytes.now [] (room_in c.args.plan.now c.args.work.now c.args.marks.now) c.with_task-answer.new.list c.with_task-answer.new.marks c.with_task-answer.result
told c =
    elim c.with_task-answer.ensures [
      | inl S ↦ called_stopped false c.args.bytes.now [] _ _ _ _ _ _ S
      | inr R ↦ let p : Painted false (task_in R.task.now) [] (room_in R.list.now c.args.work.now R.marks.now) R.list'.now R.marks'.now c.with_task-answer.result = search rules in
          called_ran _ _ false c.args.bytes.now [] c.args.work.now _ _ _ _ _ R p
    ]

pub returns-in_default : goal.returns-in_default
returns-in_default c = told (goal.at.returns-in_default c).After-with_task-answer

pub returns : goal.returns
returns c = subst (Called false _ _ _ _ _) c.in-Err.is (told (goal.at.returns c).After-with_task-answer)
