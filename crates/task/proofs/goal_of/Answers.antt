use native.Mathlib.Omega.{arith}
use borrow.Author.Rules.{rules}
use Rattle.task.proofs.Reading.{goal_absent, goal_value}
use Rattle.task.proofs.goal_of.Goals as goal

pub returns-then-g-lt64 : goal.returns-then-g-lt64
returns-then-g-lt64 c = goal_absent _ _ (search rules) (omega arith)

pub returns : goal.returns
returns c = rw c.from.ensures (goal_value _ _ (search rules) (omega arith))
