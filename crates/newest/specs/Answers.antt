-- 3.13 and 9.5: the answer as the definitions have it, and the board that goes with it.
use Rattle.std.specs.Prelude.{◌≡◌, List, [], ◌∷◌, ℕ, ◌≤◌, Result, Ok, Err}
use Rattle.std.proofs.Math.Option.{none}
use Rattle.planning.specs.Basics.{Check, in_order, refuse, Answer}
use Rattle.planning.specs.Record.{Task, task_of, record_check}
use Rattle.planning.specs.Runs.{variables}
use Rattle.planning.specs.Newest.{Progress as Ran, progress, tabulate, newest_values}
use Rattle.planning.specs.Calls.{length_check, entries_check, room_check}
use Rattle.answers.specs.Answers.{number_of, answer_by}
use Rattle.answers.specs.declared.Refusal.{Refusal}
use Rattle.sets.specs.Sets.{values_of}
use Rattle.newest.specs.declared.Board.{Board}
use Rattle.newest.specs.declared.Progress.{Progress}

abbrev pub progress_of : Progress → Ran
progress_of p = record { steps = p.steps; runs = p.runs }

abbrev pub answer_of : Result Progress Refusal → Answer Ran
answer_of = answer_by progress_of

-- the board has the result p and the newest values l
pub record Told (p : Ran) (l : List ℕ) (room : ℕ) (b : Board) : Type 0 where
  pub ran : progress_of b.progress ≡ p
  pub few : b.count ≤ 64
  pub fits : b.count ≤ room
  pub front : tabulate b.count (values_of b.newest.values) ≡ l

-- a refusal of the checks c, or if they pass a board
abbrev pub Shows : Check → Ran → List ℕ → ℕ → Result Board Refusal → Type 0
Shows c p l room (Err f) = c ≡ refuse (number_of f.reason) f.place
Shows c p l room (Ok b) = (c ≡ none) × Told p l room b

-- from the check of the room on, from those of the list on, and from those of the record on
abbrev pub Fits : Task → List ℕ → ℕ → Result Board Refusal → Type 0
Fits t l room = Shows (in_order (room_check (variables t) room ∷ [])) (progress t l) (newest_values t l) room

abbrev pub Tells : Task → List ℕ → ℕ → Result Board Refusal → Type 0
Tells t l room = Shows (in_order (length_check l ∷ entries_check t l ∷ room_check (variables t) room ∷ [])) (progress t l) (newest_values t l) room

abbrev pub Called : List ℕ → List ℕ → ℕ → Result Board Refusal → Type 0
Called s l room =
    let t = task_of s in
    Shows (in_order (record_check s ∷ length_check l ∷ entries_check t l ∷ room_check (variables t) room ∷ [])) (progress t l) (newest_values t l) room
