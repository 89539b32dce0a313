-- The entry point's checks in their order, and its answer.
use mathlib.Core.Path.{◌≡◌, refl}
use mathlib.Core.List.{List, [], ◌∷◌}
use mathlib.Core.Option.{none}
use Prim.Native.Nat.{ℕ}
use Rattle.planning.specs.Basics.{refuse, and_then, in_order, answer, refused, done}
use Rattle.planning.specs.Record.{Task, task_of, record_check}
use Rattle.planning.specs.Runs.{Judgement, judgement}
use Rattle.planning.specs.Calls.{length_check, entries_check, judge_call}
use Rattle.laws.proofs.Checks.{in_order_pass}
use Rattle.entries.specs.Entries.{list_check}
use Rattle.judge.specs.Answers.{judged_list}

module _ (s l : List ℕ) where
  pub judge_refused : (n p : ℕ) → record_check s ≡ refuse n p → refused n p ≡ judge_call s l
  unfolding judge_call in_order and_then answer
  judge_refused n p e = rw e refl

  -- a record that passed: the rest is about the task that it states
  pub judge_later : record_check s ≡ none → (t : Task) → t ≡ task_of s → judged_list t l ≡ judge_call s l
  unfolding judge_call judged_list
  judge_later e t q = rw (q, in_order_pass (record_check s) (length_check l ∷ entries_check (task_of s) l ∷ []) e) refl

module _ (t : Task) (l : List ℕ) where
  pub list_refused_by : (n p : ℕ) → list_check t l ≡ refuse n p → refused n p ≡ judged_list t l
  unfolding judged_list answer
  list_refused_by n p h = rw h refl

  pub list_judged : (j : Judgement) → list_check t l ≡ none → j ≡ judgement t l → done j ≡ judged_list t l
  unfolding judged_list answer
  list_judged j h k = rw (h, k) refl
