-- On the way to an answer: a check that passed may stand in front of those that are left, one that refuses is the answer, and where all pass the
-- length of the repaired list decides.
use mathlib.Core.Path.{◌≡◌, refl, sym, ap, ◌∙◌, subst}
use mathlib.Core.Bool.{Bool, true, false}
use mathlib.Core.List.{List, [], ◌∷◌, ◌++◌}
use mathlib.Core.Option.{none}
use Prim.Native.Nat.{ℕ, ◌≤◌}
use native.Mathlib.Omega.{arith}
use lib.Dec.{leb, leb→le}
use lib.ListN.{length, take}
use Rattle.planning.specs.Basics.{Check, check, and_then, in_order, Answer, answer, done}
use Rattle.planning.specs.Record.{Task, task_of, record_check}
use Rattle.planning.specs.Runs.{actions, is_plan}
use Rattle.planning.specs.Relaxed.{reaches_goals, relaxed_plan}
use Rattle.planning.specs.Painting.{acyclic_check, return_check}
use Rattle.planning.specs.Repair.{repaired, marks}
use Rattle.planning.specs.Calls.{capacity_of, room_check, goals_check, Planned, length_check, relaxed_check, planned, plan_of, plan_call, repair_call}
use Rattle.laws.proofs.Plans.{is_plan_elim}
use Rattle.laws.proofs.Checks.{check_none, and_then_last, and_then_assoc, in_order_pass, in_order-++}
use Rattle.answers.specs.declared.Refusal.{Refusal}
use Rattle.answers.proofs.Stages.{refusal, answer_done}
use Rattle.loader.specs.Calls.{Stopped, Ran, Post}
use Rattle.task.specs.Task.{task_in}
use Rattle.relax.specs.Kept.{Unfound}
use Rattle.repair.specs.Answers.{Held, room_in}
use Rattle.stages.proofs.Below.{all_entries}
use Rattle.entries.specs.Entries.{Entries}
use Rattle.callers.specs.Callers.{caller_check}
use Rattle.std.specs.Prelude.{Result, Ok, Err}
use Rattle.answers.specs.declared.Refusal.{Refusal}
use Rattle.answers.specs.declared.Plan.{Plan}
use Rattle.answers.specs.Plans.{planned_of, answer_of}
use Rattle.planner.specs.Drafts.{source, source_check, painting_check, InFront, Drafted, Sourced, Painted, Called}

-- entries of a plan are actions
pub plan_entries : (t : Task) (m : ℕ → Bool) (l : List ℕ) → is_plan t m l ≡ true → Entries t l
plan_entries t m l p = all_entries (actions t) l (is_plan_elim t m l p).below

module _ (t : Task) (k : List ℕ) (room : ℕ) (plan area : List ℕ) where
  -- a check that passed stands in front of the others
  pub drafted_pass : (c : Check) (cs : List Check) (r : Result Plan Refusal) → c ≡ none → Drafted t cs k room plan area r → Drafted t (c ∷ cs) k room plan area r
  drafted_pass c cs r e D = record {
    answer' = D.answer' ∙ ap (λ (x : Check). answer x (planned t k)) (sym (in_order_pass c (cs ++ (room_check (length (repaired t k)) room ∷ [])) e));
    front = D.front;
    marked = D.marked;
  }

  -- one that refuses is the answer
  pub drafted_stop : (c : Check) (cs : List Check) (f : Refusal) → c ≡ refusal f → Drafted t (c ∷ cs) k room plan area (Err f)
  unfolding in_order and_then answer
  drafted_stop c cs f e = record { answer' = rw e refl; front = tt; marked = tt }

  one : let c = room_check (length (repaired t k)) room in answer c (planned t k) ≡ answer (in_order (c ∷ [])) (planned t k)
  unfolding in_order
  one = ap (λ (x : Check). answer x (planned t k)) (sym (and_then_last (room_check (length (repaired t k)) room)))

  -- the repair's own answer x, where no other check is left
  pub drafted_repair : room ≤ length plan → room ≤ length area → (r : Result Plan Refusal) → Held t k plan area room r → Drafted t [] k room plan area r
  unfolding in_order room_check planned
  drafted_repair h b (Ok x) H =
      let l = repaired t k in
      let told : done (planned_of x) ≡ answer (room_check (length l) room) (planned t k) = H.says in
      let p = answer_done (room_check (length l) room) (planned t k) (planned_of x) (sym told) in
      let fits = leb→le (length l) room (check_none (leb (length l) room) 11 room p.0) in
      let m : length l ≡ x.steps = ap (λ (y : Planned). y.steps) p.1 in
      record {
        answer' = told ∙ one;
        front = (omega (arith, m, fits), subst (λ (y : ℕ). take y plan ≡ l) m (H.fills fits));
        marked = (omega (arith, m, fits), subst (λ (y : ℕ). take y area ≡ marks t k) m (H.marked fits));
      }
  drafted_repair h b (Err f) H = record { answer' = H.says ∙ one; front = tt; marked = tt }

-- what is asked of the relaxed plan, and which it is
module _ (t : Task) (l : List ℕ) where
  pub given_check : (g : Bool) → g ≡ true → source_check g t l ≡ caller_check t l
  unfolding source_check
  given_check g e = rw e refl

  pub own_check : (g : Bool) → g ≡ false → source_check g t l ≡ goals_check t
  unfolding source_check
  own_check g e = rw e refl

  pub given_source : (g : Bool) → g ≡ true → l ≡ source g t l
  unfolding source
  given_source g e = rw e refl

  pub own_source : (g : Bool) → g ≡ false → relaxed_plan t ≡ source g t l
  unfolding source
  own_source g e = rw e refl

  pub sourced : (g : Bool) (k : List ℕ) (room : ℕ) (plan area : List ℕ) (r : Result Plan Refusal) → k ≡ source g t l → source_check g t l ≡ none → Drafted t [] k room plan area r
      → Sourced g t l room plan area r
  sourced g k room plan area r e h D = drafted_pass t (source g t l) room plan area (source_check g t l) [] r h (subst (λ (x : List ℕ). Drafted t [] x room plan area r) e D)

-- the task's own relaxed plan is found, or there is none
pub unfound_check : (t : Task) (f : Refusal) → Unfound t f → goals_check t ≡ refusal f
unfolding goals_check check
unfound_check t f U = rw (U.unsolved, U.reason, U.place') refl

pub found_check : (t : Task) → reaches_goals t ≡ true → goals_check t ≡ none
unfolding goals_check check
found_check t e = rw e refl

-- the same task behind its painting, and behind its record
module _ (g : Bool) (t u : Task) (e : u ≡ t) (l : List ℕ) (room : ℕ) (plan area : List ℕ) (r : Result Plan Refusal) where
  pub painted : painting_check t ≡ none → Sourced g u l room plan area r → Painted g t l room plan area r
  painted h D = drafted_pass t (source g t l) room plan area (painting_check t) (source_check g t l ∷ []) r h (subst (λ (x : Task). Sourced g x l room plan area r) e D)

pub called : (g : Bool) (s : List ℕ) (u : Task) → u ≡ task_of s → (l : List ℕ) (room : ℕ) (plan area : List ℕ) (r : Result Plan Refusal) → record_check s ≡ none → Painted g u l room plan area r
    → Called g s l room plan area r
called g s u e l room plan area r h D =
    drafted_pass (task_of s) (source g (task_of s) l) room plan area (record_check s) (painting_check (task_of s) ∷ source_check g (task_of s) l ∷ []) r h
    (subst (λ (x : Task). Painted g x l room plan area r) e D)

-- the checks of a call one by one: those that were taken together stand side by side
module _ (s : List ℕ) (xs : List Check) where
  pub painting_apart : in_order (record_check s ∷ painting_check (task_of s) ∷ xs) ≡ in_order (record_check s ∷ acyclic_check (task_of s) ∷ return_check (task_of s) ∷ xs)
  unfolding painting_check in_order
  painting_apart = ap (and_then (record_check s)) (and_then_assoc (acyclic_check (task_of s)) (return_check (task_of s)) (in_order xs))

pub list_apart : (t : Task) (l : List ℕ) (c : Check) → in_order (in_order (length_check l ∷ relaxed_check t l ∷ []) ∷ c ∷ []) ≡ in_order (length_check l ∷ relaxed_check t l ∷ c ∷ [])
unfolding in_order
list_apart t l c = sym (in_order-++ (length_check l ∷ relaxed_check t l ∷ []) (c ∷ []))

-- a call as it ends before the lists are filled: its answer, the plan in front, and its marks
pub record Ended (a : Answer Planned) (l ms plan area : List ℕ) (r : Result Plan Refusal) : Type 0 where
  pub answer : answer_of r ≡ a
  pub front : InFront l plan r
  pub marked : InFront ms area r

-- the two calls
module _ (s l : List ℕ) (n w m : ℕ) (plan area : List ℕ) (r : Result Plan Refusal) where
  pub plan_called : Called false s l (capacity_of n w m) plan area r → Ended (plan_call s n w m) (plan_of (task_of s)) (marks (task_of s) (relaxed_plan (task_of s))) plan area r
  unfolding plan_call plan_of source source_check
  plan_called D =
      let t = task_of s in
      let room = room_check (length (repaired t (relaxed_plan t))) (capacity_of n w m) in
      let apart = painting_apart s (goals_check t ∷ room ∷ []) in
      record { answer = D.answer' ∙ ap (λ (c : Check). answer c (planned t (relaxed_plan t))) apart; front = D.front; marked = D.marked }

  pub repair_called : Called true s l (capacity_of n w m) plan area r → Ended (repair_call s l n w m) (repaired (task_of s) l) (marks (task_of s) l) plan area r
  unfolding repair_call source source_check in_order
  repair_called D =
      let t = task_of s in
      let room = room_check (length (repaired t l)) (capacity_of n w m) in
      let two = in_order (length_check l ∷ relaxed_check t l ∷ []) in
      let apart : in_order (record_check s ∷ acyclic_check t ∷ return_check t ∷ two ∷ room ∷ []) ≡ in_order (record_check s ∷ acyclic_check t ∷ return_check t ∷ length_check l ∷ relaxed_check t l ∷ room ∷ []) =
      ap (λ (x : Check). and_then (record_check s) (and_then (acyclic_check t) (and_then (return_check t) x))) (list_apart t l room) in
      record { answer = D.answer' ∙ ap (λ (c : Check). answer c (planned t l)) (painting_apart s (two ∷ room ∷ []) ∙ apart); front = D.front; marked = D.marked }

-- a call as `with_task` leaves it: the record is refused, or what is called on its task tells the rest
pub called_stopped : (g : Bool) (s l : List ℕ) (room : ℕ) (plan area : List ℕ) (r : Result Plan Refusal) (plan' area' : List ℕ)
    → Stopped s plan area r plan' area' → Called g s l room plan' area' r
called_stopped g s l room plan area r plan' area' S = rw S.answer' (drafted_stop (task_of s) _ _ _ _ _ _ _ S.check)

module _ {F : Type 0} (post : Post F Plan) (f : F) (g : Bool) (s l w plan area : List ℕ) (r : Result Plan Refusal) (plan' area' : List ℕ) where
  pub called_ran : (R : Ran post f s plan area r plan' area') → Painted g (task_in R.task.now) l (room_in R.list.now w R.marks.now) R.list'.now R.marks'.now r
      → Called g s l (room_in plan w area) plan' area' r
  called_ran R P =
      rw (← R.list_new, ← R.marks_new, ← R.list_is, ← R.marks_is) (called g s _ R.read.same l _ _ _ r R.accepted P)
