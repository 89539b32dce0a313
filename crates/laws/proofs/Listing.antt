-- The text of a listing where the planner answers with a plan: the other calls answer too, and what they leave in lists of 16,384
-- entries are the numbers of the text.
use Prim.Native.Nat.{ℕ, ◌≤◌}
use mathlib.Core.Path.{◌≡◌, refl, ap, ◌∙◌}
use mathlib.Core.List.{List, [], ◌∷◌, ◌++◌}
use mathlib.Core.Option.{none}
use native.Mathlib.Omega.{arith}
use lib.Dec.{leb, le→leb}
use lib.ListN.{length, take}
use lib.Seq.{take-append-le, take-append_seam}
use Rattle.planning.specs.Basics.{Answer, refused, done}
use Rattle.planning.specs.Record.{task_of, record_check}
use Rattle.planning.specs.Runs.{real, act, initial}
use Rattle.planning.specs.Relaxed.{forward_run, facts_reached, relaxed_plan}
use Rattle.planning.specs.Calls.{lent, capacity, room_check, forward_call, relax_call, relax_list, Planned, planned, plan_of, plan_call, plan_list, runnable}
use Rattle.planning.specs.Listing.{line, reached_word, relaxed_word, plan_word, refused_word, verdict_word, listing, listing_of}
use Rattle.laws.proofs.Checks.{check_pass, answer_done, answer_passed}
use Rattle.laws.proofs.Formed.{formed_of}
use Rattle.laws.proofs.Forward.{forward_run_length}
use Rattle.laws.proofs.Achievers.{relaxed_plan_length}
use Rattle.laws.proofs.Plans.{steps_run_le}
use Rattle.laws.proofs.Sizes.{addable_le, record_length}
use Rattle.laws.proofs.Calls.{plan_call_returned}
use Rattle.laws.proofs.Longest.{plan_call_front}

plan_call_record : (s : List ℕ) (p : Planned) → plan_call s 16384 16384 16384 ≡ done p → record_check s ≡ none
unfolding plan_call
plan_call_record s p e = (answer_passed _ (planned (task_of s) (relaxed_plan (task_of s))) p e).0.0

-- the planner's answer is p
module _ (s : List ℕ) (p : Planned) (e : plan_call s 16384 16384 16384 ≡ done p) where
  result : p ≡ planned (task_of s) (relaxed_plan (task_of s))
  result = (plan_call_returned s 16384 16384 16384 p e).result

  pub relaxed_few : length (relaxed_plan (task_of s)) ≤ 4032
  relaxed_few = let F = formed_of s (plan_call_record s p e) in omega (arith, relaxed_plan_length (task_of s) F, addable_le (task_of s) F)

  forward_few : length (forward_run (task_of s)) ≤ 4032
  forward_few = let F = formed_of s (plan_call_record s p e) in omega (arith, forward_run_length (task_of s) F, addable_le (task_of s) F)

  pub forward_done : forward_call s 16384 ≡ done (record { steps = length (forward_run (task_of s)); reached = facts_reached (task_of s) })
  unfolding plan_call forward_call room_check capacity
  forward_done =
      let Q = (answer_passed _ (planned (task_of s) (relaxed_plan (task_of s))) p e).0 in
      answer_done _ _ (Q.0, (Q.1.1.1.0, (check_pass (leb (length (forward_run (task_of s))) 16384) 11 16384 (le→leb (length (forward_run (task_of s))) 16384 (omega (arith, forward_few))), tt)))

  pub relax_done : relax_call s 16384 ≡ done (length (relaxed_plan (task_of s)))
  unfolding plan_call relax_call room_check capacity
  relax_done =
      let Q = (answer_passed _ (planned (task_of s) (relaxed_plan (task_of s))) p e).0 in
      answer_done _ _ (Q.0, (Q.1.1.1.0, (check_pass (leb (length (relaxed_plan (task_of s))) 16384) 11 16384 (le→leb (length (relaxed_plan (task_of s))) 16384 (omega (arith, relaxed_few))), tt)))

  -- the front of the list of the relaxed plan
  pub relaxed_front : take (length (relaxed_plan (task_of s))) (relax_list s 16384) ≡ relaxed_plan (task_of s)
  unfolding relax_list lent
  relaxed_front = rw (relax_done, lent) (take-append_seam (relaxed_plan (task_of s)) _)

  -- the front of the list of the plan, and the part of it that runs
  pub plan_front : take p.steps (plan_list s 16384 16384 16384) ≡ plan_of (task_of s)
  unfolding plan_list lent planned plan_of
  plan_front = ap (λ x. take x.steps (plan_list s 16384 16384 16384)) result ∙ rw (e, lent) (take-append_seam (plan_of (task_of s)) _)

  pub runs_front : runnable (done p) (plan_list s 16384 16384 16384) ≡ runnable (done p) (plan_of (task_of s))
  unfolding plan_list lent runnable planned plan_of
  runs_front = rw (e, lent) (take-append-le p.runs (plan_of (task_of s)) _ (omega (arith, ap (λ x. x.runs) result, steps_run_le (act (task_of s)) real (plan_of (task_of s)) (initial (task_of s)))))

  -- the four lines
  pub listing_lines : (f n c : ℕ) (l m : List ℕ) → f ≡ facts_reached (task_of s) → l ≡ relaxed_plan (task_of s) → m ≡ plan_of (task_of s) → c ≡ p.cost
      → n ≡ length (runnable (done p) (plan_of (task_of s)))
      → line reached_word (f ∷ []) ++ (line relaxed_word (length l ∷ l) ++ (line plan_word (length m ∷ c ∷ m) ++ line (verdict_word p.real') (n ∷ []))) ≡ listing_of s
  unfolding listing_of listing planned plan_of
  listing_lines f n c l m ef el em ec en = rw (ef, el, em, ec, en, e, listing) (rw result refl)

pub listing_refused : (s : List ℕ) (n p : ℕ) → plan_call s 16384 16384 16384 ≡ refused n p → line refused_word (n ∷ p ∷ []) ≡ listing_of s
unfolding listing_of listing
listing_refused s n p e = rw (e, listing) refl

-- an input longer than a record: its first 49,316 bytes have the listing of the whole
pub listing_front : (s : List ℕ) (n : ℕ) → 49316 ≤ n → n ≤ length s → listing_of (take n s) ≡ listing_of s
unfolding listing_of listing
listing_front s n h l = ap (listing (task_of (take n s))) (plan_call_front s n h l 16384 16384 16384) ∙ go (plan_call s 16384 16384 16384) refl
  where
    go : (a : Answer Planned) → plan_call s 16384 16384 16384 ≡ a → listing (task_of (take n s)) a ≡ listing (task_of s) a
    go (refused k p) e = refl
    go (done p) e = absurd (omega (arith, record_length s (plan_call_record s p e)))
