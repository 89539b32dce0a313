-- The calls that fill a plan list, check by check, and the list afterwards. Two calls differ in what they put into the list only.
use mathlib.Core.Path.{◌≡◌, refl, sym, ap, ◌∙◌}
use mathlib.Core.Bool.{Bool, true, false, not}
use mathlib.Core.List.{List, [], ◌∷◌}
use mathlib.Core.Option.{none, some}
use Prim.Native.Nat.{ℕ}
use borrow.Author.Tests.{not-true, not-false}
use lib.ListN.{length, replicate}
use Rattle.std.specs.Prelude.{Result, Ok, Err, OnOk}
use Rattle.std.specs.Result.{is_err}
use Rattle.answers.specs.declared.Refusal.{Refusal}
use Rattle.answers.specs.Answers.{number_of, answer_by}
use Rattle.planning.specs.Basics.{Check, check, refuse, and_then, in_order, Answer, refused, done, answer}
use Rattle.planning.specs.Record.{Task, task_of, record_check}
use Rattle.planning.specs.Runs.{State, act, relaxed, run, initial, step, size, run_by}
use Rattle.planning.specs.Relaxed.{forward_run, forward_end, reaches_goals, facts_reached}
use Rattle.planning.specs.Calls.{lent, capacity, room_check, goals_check, Forward, forward_call, forward_list}
use Rattle.laws.proofs.Checks.{and_then_last}
use Rattle.laws.proofs.Formed.{Formed}
use Rattle.sets.specs.Sets.{Within}
use Rattle.state.proofs.Count.{size_facts, within_initial, within_step}
use Rattle.answers.proofs.Stages.{skip, hit}
use Rattle.lists.specs.Lent.{laid}
use Rattle.forward.specs.declared.Run.{Run}
use Rattle.forward.specs.Answers.{told_of, found_of, called, forward_of, forward_in}

-- the list holds the same whatever stands beside it in the answer
lent_same : {A B : Type 0} (c : Check) (a : A) (b : B) (n : ℕ) (l : List ℕ) → lent (answer c a) n l ≡ lent (answer c b) n l
unfolding lent answer
lent_same none a b n l = refl
lent_same (some r) a b n l = refl

-- the checks of a call, in their order
module _ {A : Type 0} (t : Task) (l : List ℕ) (m : ℕ) (a : A) where
  pub called_unsolved : reaches_goals t ≡ false → called t l m a ≡ refused 10 (facts_reached t)
  unfolding called answer in_order and_then goals_check check
  called_unsolved h = rw h refl

  called_room : reaches_goals t ≡ true → called t l m a ≡ answer (room_check (length l) (capacity m)) a
  unfolding called in_order and_then goals_check check
  called_room h = rw h (ap (λ c. answer c a) (and_then_last (room_check (length l) (capacity m))))

  module _ (h : reaches_goals t ≡ true) where
    pub called_whole : none ≡ room_check (length l) (capacity m) → done a ≡ called t l m a
    unfolding answer
    called_whole q = sym (called_room h ∙ rw (← q) refl)

    pub called_short : (p q : ℕ) → refuse p q ≡ room_check (length l) (capacity m) → refused p q ≡ called t l m a
    unfolding answer
    called_short p q z = sym (called_room h ∙ rw (← z) refl)

    pub called_list : laid m l ≡ lent (called t l m a) m l
    unfolding laid
    called_list = lent_same {A = ℕ} (room_check (length l) (capacity m)) 0 a m l ∙ ap (λ x. lent x m l) (sym (called_room h))

-- after a refusal the list is blank
pub lent_refused : {A : Type 0} (x : Answer A) (p q n : ℕ) (l : List ℕ) → x ≡ refused p q → replicate n 65535 ≡ lent x n l
unfolding lent
lent_refused x p q n l e = rw e refl

-- so where the code answers with one
pub lent_err : {A B : Type 0} (g : A → B) (r : Result A Refusal) (x : Answer B) (n : ℕ) (l : List ℕ) → is_err r ≡ true → answer_by g r ≡ x → replicate n 65535 ≡ lent x n l
lent_err g (Ok a) x n l h e = cc
lent_err g (Err f) x n l h e = lent_refused x (number_of f.reason) f.place n l (sym e)

-- else what holds of a result holds
pub of_ok : {A P : Type 0} (r : Result A Refusal) → is_err r ≡ false → OnOk r P → P
of_ok (Ok a) h p = p
of_ok (Err f) h p = cc

-- the facts of the last state
within_run : (t : Task) → Formed t → (l : List ℕ) (s : State) → Within t s → Within t (run (act t) relaxed l s)
unfolding run_by
within_run t F [] s W = W
within_run t F (i ∷ l) s W = within_run t F l (step relaxed (act t i) s) (within_step t relaxed i s F W)

pub reached_facts : (t : Task) → Formed t → (s : State) → s ≡ forward_end t → size 64 (λ _. 64) s ≡ facts_reached t
unfolding facts_reached forward_end
reached_facts t F s e = rw e (size_facts t (run (act t) relaxed (forward_run t) (initial t)) F (within_run t F (forward_run t) (initial t) (within_initial t F)))

-- the forward run's answer and its list, once the record is accepted
module _ (t : Task) (m : ℕ) (b : Bool) (eb : b ≡ reaches_goals t) (f : ℕ) (ef : f ≡ facts_reached t) where
  abbrev x : Forward
  x = record { steps = length (forward_run t); reached = facts_reached t }

  pub forward_unsolved : not b ≡ true → (refused 10 f ≡ forward_of t m) × (replicate m 65535 ≡ forward_in t m)
  unfolding forward_of forward_in
  forward_unsolved h =
      let z = called_unsolved t (forward_run t) m x (sym eb ∙ not-true b h) in
      (rw ef (sym z), lent_refused (called t (forward_run t) m x) 10 (facts_reached t) m (forward_run t) z)

  module _ (h : not b ≡ false) (l : List ℕ) (el : l ≡ forward_run t) where
    solved : reaches_goals t ≡ true
    solved = sym eb ∙ not-false b h

    pub forward_whole : (n : ℕ) → n ≡ length (forward_run t) → none ≡ room_check (length l) (capacity m) → done (record { steps = n; reached = f }) ≡ forward_of t m
    unfolding forward_of
    forward_whole n en q = rw (en, ef) (called_whole t (forward_run t) m x solved (rw (← el) q))

    pub forward_short : (p q : ℕ) → refuse p q ≡ room_check (length l) (capacity m) → refused p q ≡ forward_of t m
    unfolding forward_of
    forward_short p q z = called_short t (forward_run t) m x solved p q (rw (← el) z)

    pub forward_list_lem : laid m l ≡ forward_in t m
    unfolding forward_of forward_in
    forward_list_lem = rw el (called_list t (forward_run t) m x solved)

-- and before: any answer x with any list l, of a record's task, behind the record's own check
module _ {A : Type 0} (s : List ℕ) (m : ℕ) (x : Task → A) (l : Task → List ℕ) where
  abbrev whole : Answer A
  whole = answer (in_order (record_check s ∷ goals_check (task_of s) ∷ room_check (length (l (task_of s))) (capacity m) ∷ [])) (x (task_of s))

  abbrev rest : List Check
  rest = goals_check (task_of s) ∷ room_check (length (l (task_of s))) (capacity m) ∷ []

  pub called_refused : (p q : ℕ) → refuse p q ≡ record_check s → (refused p q ≡ whole) × (replicate m 65535 ≡ lent whole m (l (task_of s)))
  called_refused p q e =
      let z = hit (record_check s) rest p q (x (task_of s)) (sym e) in
      (z, lent_refused whole p q m (l (task_of s)) (sym z))

  pub called_accepts : record_check s ≡ none → (t : Task) → t ≡ task_of s
      → (called t (l t) m (x t) ≡ whole) × (lent (called t (l t) m (x t)) m (l t) ≡ lent whole m (l (task_of s)))
  unfolding called
  called_accepts e t et =
      let z : called (task_of s) (l (task_of s)) m (x (task_of s)) ≡ whole = skip (record_check s) rest (called (task_of s) (l (task_of s)) m (x (task_of s))) (x (task_of s)) e refl in
      rw et (z, ap (λ a. lent a m (l (task_of s))) z)

-- the forward run's
module _ (s : List ℕ) (m : ℕ) where
  abbrev told : Task → Forward
  told t = record { steps = length (forward_run t); reached = facts_reached t }

  pub forward_refused : (p q : ℕ) → refuse p q ≡ record_check s → (refused p q ≡ forward_call s m) × (replicate m 65535 ≡ forward_list s m)
  unfolding forward_call forward_list
  forward_refused = called_refused s m told forward_run

  pub forward_blank : (r : Result Run Refusal) → is_err r ≡ true → found_of r ≡ forward_call s m → replicate m 65535 ≡ forward_list s m
  unfolding forward_list
  forward_blank r = lent_err told_of r (forward_call s m) m (forward_run (task_of s))

  pub forward_accepts : record_check s ≡ none → (t : Task) → t ≡ task_of s → (forward_of t m ≡ forward_call s m) × (forward_in t m ≡ forward_list s m)
  unfolding forward_call forward_list forward_of forward_in
  forward_accepts = called_accepts s m told forward_run
