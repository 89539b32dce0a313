use mathlib.Core.Path.{◌≡◌, ap, ◌∙◌}
use Prim.Native.Nat.{ℕ}
use native.Mathlib.Omega.{arith}
use Rattle.task.specs.Task.{task_in}
use Rattle.planning.specs.Runs.{actions}
use Rattle.planning.specs.Calls.{entries_check}
use Rattle.entries.specs.Entries.{leading}
use Rattle.entries.proofs.Lists.{long_refused, list_refused, list_passed}
use Rattle.entries.proofs.check_list.Goals as goal
use Rattle.entries.proofs.check_list.Goals.{After-leading-n}

pub returns-then-list-gt32768 : goal.returns-then-list-gt32768
returns-then-list-gt32768 c = let a = c.args in long_refused (entries_check (task_in a.task.now) a.list.now) a.list.now (omega arith)

ensured : (c : After-leading-n) → c.leading-n.result ≡ leading (actions (task_in c.args.task.now))
    c.args.list.now
ensured c = c.leading-n.ensures.0 ∙ ap (λ (n : ℕ). leading n c.args.list.now) c.actions.ensures

pub returns-then-n-list : goal.returns-then-n-list
returns-then-n-list c = let a = c.args in list_refused (task_in a.task.now) a.list.now _ (omega arith) (ensured (goal.at.returns-then-n-list c).After-leading-n) (omega arith)

pub returns : goal.returns
returns c =
    let a = c.args in list_passed (task_in a.task.now) a.list.now _ (omega arith) (ensured (goal.at.returns c).After-leading-n)
    (omega arith) c.leading-n.ensures.1
