-- The newest values as a list, the board where every check passes, and the lent list that is filled from it.
use mathlib.Core.Path.{◌≡◌, refl, sym, ap, ◌∙◌, subst}
use mathlib.Core.List.{List, [], ◌∷◌, ◌++◌}
use mathlib.Core.Option.{none}
use Prim.Native.Nat.{ℕ, zero, suc, ◌-◌, ◌<◌, ◌≤◌}
use native.Mathlib.Omega.{arith}
use lib.ListN.{length, take, drop, get_or, replicate, length-append, length-drop}
use lib.Seq.{take_at, length-take-le}
use Rattle.std.specs.Prelude.{Result, Ok, Err}
use Rattle.planning.specs.Basics.{Check, in_order, refuse, done, refused}
use Rattle.planning.specs.Record.{Task, task_of, record_check}
use Rattle.planning.specs.Runs.{real, variables, act, initial, steps_run}
use Rattle.planning.specs.Newest.{tabulate, newest_values, progress, red_black_steps, stops_in}
use Rattle.planning.specs.Calls.{length_check, entries_check, room_check, lent, newest_call, newest_list}
use Rattle.answers.specs.declared.Refusal.{Refusal}
use Rattle.answers.specs.Answers.{number_of}
use Rattle.answers.proofs.Stages.{skip_one, none_left, hit_one, answer_passing, answer_refusing}
use Rattle.lists.proofs.Laying.{room_fits, room_short}
use Rattle.sets.specs.Sets.{values_of}
use Rattle.newest.specs.declared.Board.{Board}
use Rattle.newest.specs.Answers.{progress_of, Told, Shows, Tells, Called}

-- the first n newest values
front_is : (n : ℕ) (ns : List ℕ) → n ≤ length ns → tabulate n (λ v. get_or ns v 0) ≡ take n ns
unfolding tabulate
front_is zero ns h = refl
front_is (suc n) [] h = absurd (omega arith)
front_is (suc n) (x ∷ ns) h = ap (λ (l : List ℕ). x ∷ l) (front_is n ns (omega arith))

-- the check of the room for n values
module _ (n room : ℕ) where
  pub room_refused : room < n → in_order (room_check n room ∷ []) ≡ refuse 11 room
  room_refused h = hit_one (room_check n room) [] 11 room (room_short n room h)

  pub room_passed : n ≤ room → in_order (room_check n room ∷ []) ≡ none
  room_passed h = skip_one (room_check n room) [] (room_fits n room h) ∙ none_left

pub values_told : (t : Task) (l : List ℕ) (room : ℕ) (b : Board) → b.count ≡ variables t → b.count ≤ 64 → b.count ≤ room → b.progress.steps ≡ red_black_steps t l
    → b.progress.runs ≡ steps_run (act t) real l (initial t) → values_of b.newest.values ≡ (stops_in t l).newest → Told (progress t l) (newest_values t l) room b
unfolding progress newest_values
values_told t l room b ec few fits es er ef = record { ran = rw (es, er) refl; few = few; fits = fits; front = rw (ec, ef) refl }

-- from the record's check on
module _ (s l : List ℕ) (room : ℕ) where
  pub record_refused : (f : Refusal) → record_check s ≡ refuse (number_of f.reason) f.place → Called s l room (Err f)
  record_refused f e = hit_one (record_check s) (length_check l ∷ entries_check (task_of s) l ∷ room_check (variables (task_of s)) room ∷ []) (number_of f.reason) f.place e

  pub record_passed : record_check s ≡ none → (t : Task) → t ≡ task_of s → (r : Result Board Refusal) → Tells t l room r → Called s l room r
  record_passed e t q r T =
      let u = task_of s in
      let xs = length_check l ∷ entries_check u l ∷ room_check (variables u) room ∷ [] in
      subst (λ (k : Check). Shows k (progress u l) (newest_values u l) room r) (sym (skip_one (record_check s) xs e)) (rw q at T)

-- the answer, and the list afterwards: filled from the board and blank behind it, or blank
module _ (s l : List ℕ) (room : ℕ) where
  pub answer_told : (b : Board) → Called s l room (Ok b) → done (progress_of b.progress) ≡ newest_call s l room
  unfolding newest_call
  answer_told b C = rw C.1.ran (answer_passing _ _ C.0)

  pub answer_refused_by : (f : Refusal) → Called s l room (Err f) → refused (number_of f.reason) f.place ≡ newest_call s l room
  unfolding newest_call
  answer_refused_by f C = answer_refusing _ _ _ _ C

  pub list_filled : (b : Board) → Called s l room (Ok b) → length b.newest.values ≡ 64 → (d e g : List ℕ) → length d ≡ room
      → e ≡ take b.count b.newest.values ++ drop (length (take b.count b.newest.values)) d → g ≡ take b.count e ++ replicate (length e - b.count) 65535 → g ≡ newest_list s l room
  unfolding newest_list lent values_of
  list_filled b C n d e g hd he hg =
      let B = C.1 in
      let front : List ℕ = take b.count b.newest.values in
      let long : length front ≡ b.count = length-take-le b.count b.newest.values (omega (arith, B.few)) in
      let whole : length e ≡ room = rw (he, length-append front (drop (length front) d), length-drop (length front) d) (omega (arith, B.fits)) in
      let lead : take b.count e ≡ front = rw he (take_at front (drop (length front) d) b.count long) in
      let same : front ≡ newest_values (task_of s) l = sym (front_is b.count b.newest.values (omega (arith, B.few))) ∙ B.front in
      hg ∙ rw (lead, whole, ← answer_told b C, ← same, long) refl

  pub list_blank : (f : Refusal) → Called s l room (Err f) → (g : List ℕ) → g ≡ replicate room 65535 → g ≡ newest_list s l room
  unfolding newest_list lent
  list_blank f C g hg = hg ∙ rw (← answer_refused_by f C) refl
