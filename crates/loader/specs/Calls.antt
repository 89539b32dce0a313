-- A call on the task of the record s, with a list and marks lent to it.
use Rattle.std.specs.Prelude.{◌≡◌, ℕ, List, Result, Err, ◌⊎◌}
use Rattle.std.proofs.Math.Option.{none}
use denote.Ref.{MutBor}
use Rattle.planning.specs.Basics.{refuse}
use Rattle.planning.specs.Record.{record_check}
use Rattle.answers.specs.declared.Refusal.{Refusal}
use Rattle.answers.specs.Answers.{number_of}
use Rattle.loader.specs.Loading.{TaskRead}

-- f may be called on the task of s, where s is accepted
abbrev pub Callable : {F : Type 0} → (F → MutBor (List ℕ) → MutBor (List ℕ) → MutBor (List ℕ) → Type 0) → F → List ℕ → Type 0
Callable pre f s = (task list marks : MutBor (List ℕ)) → record_check s ≡ none → TaskRead s task.now → pre f task list marks

-- what a call of f says of the lists and the result before and after
abbrev pub Post : Type 0 → Type 0 → Type 1
Post F R = F → MutBor (List ℕ) → MutBor (List ℕ) → MutBor (List ℕ) → Result R Refusal → MutBor (List ℕ) → MutBor (List ℕ) → MutBor (List ℕ) → Type 0

-- s is refused: the list l and the marks m are as they were
pub record Stopped {R : Type 0} (s l m : List ℕ) (r : Result R Refusal) (l' m' : List ℕ) : Type 0 where
  pub refusal : Refusal
  pub answer' : r ≡ Err refusal
  pub check : record_check s ≡ refuse (number_of refusal.reason) refusal.place
  pub list : l' ≡ l
  pub marks : m' ≡ m

-- s is accepted, and f was called on its task
pub record Ran {F R : Type 0} (post : Post F R) (f : F) (s l m : List ℕ) (r : Result R Refusal) (l' m' : List ℕ) : Type 0 where
  pub accepted : record_check s ≡ none
  pub task : MutBor (List ℕ)
  pub list : MutBor (List ℕ)
  pub marks : MutBor (List ℕ)
  pub task' : MutBor (List ℕ)
  pub list' : MutBor (List ℕ)
  pub marks' : MutBor (List ℕ)
  pub read : TaskRead s task.now
  pub list_is : list.now ≡ l
  pub marks_is : marks.now ≡ m
  pub list_new : list'.now ≡ l'
  pub marks_new : marks'.now ≡ m'
  pub called : post f task list marks r task' list' marks'

abbrev pub Called : {F R : Type 0} → Post F R → F → List ℕ → List ℕ → List ℕ → Result R Refusal → List ℕ → List ℕ → Type 0
Called post f s l m r l' m' = Stopped s l m r l' m' ⊎ Ran post f s l m r l' m'
