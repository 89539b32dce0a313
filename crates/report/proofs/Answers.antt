-- From the answers of the calls to the text of the listing.
use Prim.Native.Nat.{ℕ, ◌≤◌}
use mathlib.Core.Path.{◌≡◌, refl, sym, ap, ◌∙◌}
use mathlib.Core.List.{List, [], ◌∷◌, ◌++◌, append_assoc}
use native.Mathlib.Omega.{arith}
use lib.ListN.{length, take, length-take}
use Rattle.std.specs.Prelude.{Result, Ok, Err}
use Rattle.planning.specs.Basics.{Answer, refused, done}
use Rattle.planning.specs.Record.{task_of}
use Rattle.planning.specs.Relaxed.{facts_reached, relaxed_plan}
use Rattle.planning.specs.Calls.{relax_call, Planned, plan_of, plan_call, plan_list, runnable}
use Rattle.planning.specs.Listing.{line, reached_word, relaxed_word, plan_word, refused_word, verdict_word, listing_of}
use Rattle.text.specs.Put.{Put}
use Rattle.text.proofs.Texts.{put_then}
use Rattle.answers.specs.declared.Refusal.{Refusal}
use Rattle.answers.specs.declared.Plan.{Plan}
use Rattle.answers.specs.Answers.{number_of}
use Rattle.answers.specs.Plans.{planned_of, answer_of}
use Rattle.lines.specs.Answers.{steps_in, kept_in, runs_text}
use Rattle.laws.proofs.Listing.{relaxed_few, forward_done, relax_done, relaxed_front, plan_front, runs_front, listing_lines, listing_refused}

abbrev Answered : Type 0
Answered = Result Plan Refusal

pub runnable_few : (a : Answer Planned) (l : List ℕ) → length (runnable a l) ≤ length l
unfolding runnable
runnable_few (refused n p) l = omega arith
runnable_few (done p) l = omega (arith, length-take p.runs l)

-- the planner's answer to s, and its list
pub record Told (s : List ℕ) (r : Answered) (plan : List ℕ) : Type 0 where
  pub called : answer_of r ≡ plan_call s 16384 16384 16384
  pub list : plan ≡ plan_list s 16384 16384 16384

pub told : (s plan : List ℕ) (r : Answered) (n w m : ℕ) → n ≡ 16384 → w ≡ 16384 → m ≡ 16384 → answer_of r ≡ plan_call s n w m → plan ≡ plan_list s n w m → Told s r plan
told s plan r n w m en ew em c l = record { called = rw (en, ew, em) at c; list = rw (en, ew, em) at l }

-- after a refusal
pub written_refusal : {o o' : List ℕ} {e : ℕ} (s plan : List ℕ) (r : Answered) → Told s r plan → (f : Refusal) → r ≡ Err f
    → Put o 0 (line refused_word (number_of f.reason ∷ f.place ∷ [])) o' e → Put o 0 (listing_of s) o' e
written_refusal s plan r A f er P = rw (← listing_refused s (number_of f.reason) f.place (sym A.called ∙ ap answer_of er)) P

-- with a plan
module _ (s plan : List ℕ) (r : Answered) (A : Told s r plan) (p : Plan) (e : r ≡ Ok p) where
  answered : plan_call s 16384 16384 16384 ≡ done (planned_of p)
  answered = sym A.called ∙ ap answer_of e

  pub kept_few : (w : ℕ) → w ≡ 16384 → steps_in (relax_call s w) ≤ 4032
  kept_few w e = rw (e, relax_done s _ answered) (relaxed_few s _ answered)

  runs_text_is : runs_text s 16384 ≡ line reached_word (facts_reached (task_of s) ∷ []) ++ line relaxed_word (length (relaxed_plan (task_of s)) ∷ relaxed_plan (task_of s))
  unfolding runs_text kept_in
  runs_text_is = rw (forward_done s _ answered, relax_done s _ answered, relaxed_front s _ answered) refl

  -- with the list and the steps that run as they were handed to the text
  pub written : {o o' o'' : List ℕ} {a b : ℕ} (w k : ℕ) (l : List ℕ) → Put o 0 (runs_text s w) o' a → Put o' a (line plan_word (length l ∷ p.cost ∷ l) ++ line (verdict_word p.real) (k ∷ [])) o'' b
      → w ≡ 16384 → l ≡ take p.steps plan → k ≡ length (runnable (done (planned_of p)) plan) → Put o 0 (listing_of s) o'' b
  written w k l P Q ew el ek =
      let m : l ≡ plan_of (task_of s) = el ∙ ap (take p.steps) A.list ∙ plan_front s _ answered in
      let j : k ≡ length (runnable (done (planned_of p)) (plan_of (task_of s))) =
      ek ∙ ap (λ x. length (runnable (done (planned_of p)) x)) A.list ∙ ap length (runs_front s _ answered) in
      put_then
      (ap (λ y. y ++ (line plan_word (length l ∷ p.cost ∷ l) ++ line (verdict_word p.real) (k ∷ []))) (ap (runs_text s) ew ∙ runs_text_is)
      ∙ append_assoc (line reached_word (facts_reached (task_of s) ∷ [])) (line relaxed_word (length (relaxed_plan (task_of s)) ∷ relaxed_plan (task_of s))) _
      ∙ listing_lines s _ answered (facts_reached (task_of s)) k p.cost (relaxed_plan (task_of s)) l refl refl m refl j)
      P Q
