-- What the check of a painting asks of each action, what it answers and what it leaves.
use Rattle.std.specs.Prelude.{◌≡◌, List, Bool, Result, ℕ}
use Rattle.std.proofs.Math.Option.{none}
use Rattle.planning.specs.Basics.{and_then, some_below}
use Rattle.planning.specs.Painting.{acyclic_check, return_check, lacks_return}
use Rattle.planning.specs.Record.{Task}
use Rattle.planning.specs.Runs.{variables, count}
use Rattle.answers.specs.declared.Refusal.{Refusal}
use Rattle.answers.specs.Answers.{check_of}
use Rattle.task.specs.Task.{task_in}
use Rattle.task.specs.Links.{Prepared, Relinked}

-- action i has an arc that lacks its return
unfoldable pub lacks : Task → ℕ → Bool
lacks t i = some_below (variables t) (λ v. some_below (count t v) (lacks_return t i v))

-- 7, then 8; the task is the same, and where both pass it is prepared
pub record Readied (before : List ℕ) (r : Result Unit Refusal) (after : List ℕ) : Type 0 where
  pub answer : check_of r ≡ and_then (acyclic_check (task_in before)) (return_check (task_in before))
  pub same : task_in after ≡ task_in before
  pub relinked : Relinked before after
  pub prepared : check_of r ≡ none → Prepared after
