-- The lists when a call ends: the plan stays in front, 65,535 behind it, its marks in the mark area, 0 behind them, and what demand 3 says of
-- the plan it says of the list.
use mathlib.Core.Path.{◌≡◌, refl, sym, ap, ◌∙◌, subst}
use mathlib.Core.List.{List, ◌++◌}
use Prim.Native.Nat.{ℕ, ◌-◌}
use lib.ListN.{length, take, replicate}
use lib.Seq.{length-take-le, take-append_seam}
use Rattle.planning.specs.Basics.{Answer}
use Rattle.planning.specs.Record.{Task, task_of}
use Rattle.planning.specs.Calls.{lent, lent_bytes, plan_in, marks_in, Planned, plan_of, plan_call, plan_list, plan_marks, repair_call, repair_list, repair_marks, work_list}
use Rattle.planning.specs.Existence.{ReturnsPlan, Complete, Demand3, Bounded, Ceiling, Recovers}
use Rattle.planning.specs.Relaxed.{relaxed_plan}
use Rattle.planning.specs.Repair.{repaired, marks}
use Rattle.laws.proofs.Calls.{plan_call_bounded, repair_call_bounded}
use Rattle.laws.proofs.Demand3.{demand3}
use Rattle.std.specs.Prelude.{Result, Ok, Err}
use Rattle.answers.specs.declared.Refusal.{Refusal}
use Rattle.answers.specs.declared.Plan.{Plan}
use Rattle.answers.specs.Plans.{answer_of}
use Rattle.blanking.proofs.Filled.{filled, lent_is, lent_bytes_is}
use Rattle.planner.specs.Drafts.{InFront}
use Rattle.planner.proofs.Drafts.{Ended}

pub blanked : (w : ℕ) (l : List ℕ) → l ≡ replicate w 65535 → l ≡ work_list w
unfolding work_list
blanked w l e = e

-- a list or an area d once it is filled, the result l standing in front
module _ (z : ℕ) (l d : List ℕ) where
  whole : (a : Answer Planned) (n : ℕ) → length d ≡ n → (r : Result Plan Refusal) → answer_of r ≡ a → InFront l d r → (d' : List ℕ) → d' ≡ filled z (answer_of r) (length d) (plan_in (answer_of r) d)
      → d' ≡ filled z a n l
  unfolding filled plan_in
  whole a n en (Ok p) ea F d' e = rw (← ea) (e ∙ rw (F.1, en) refl)
  whole a n en (Err f) ea F d' e = rw (← ea) (e ∙ rw en refl)

  front : (r : Result Plan Refusal) → InFront l d r → (d' : List ℕ) → d' ≡ filled z (answer_of r) (length d) (plan_in (answer_of r) d) → ReturnsPlan (answer_of r) → plan_in (answer_of r) d' ≡ l
  unfolding filled plan_in
  front (Ok q) F d' e p =
      let s = q.steps in
      let long : length (take s d) ≡ s = length-take-le s d F.0 in
      ap (take s) e ∙ (subst (λ x. take x (take s d ++ replicate (length d - length (take s d)) z) ≡ l) long (take-append_seam (take s d) _ ∙ F.1))
  front (Err f) F d' e p = absurd p

-- what is told of a call, told of its lists as they are left
bounded_same : (s k : List ℕ) (a : Answer Planned) (l : List ℕ) (r : Answer Planned) → r ≡ a → (l' : List ℕ) → (ReturnsPlan r → l' ≡ l) → Bounded s k a l → Bounded s k r l'
bounded_same s k a l r e l' f B z = rw (f z) (subst (λ x. Bounded s k x l) (sym e) B z)

recovers_same : (s k : List ℕ) (a : Answer Planned) (l ms : List ℕ) (r : Answer Planned) → r ≡ a → (l' ms' : List ℕ) → (ReturnsPlan r → l' ≡ l) → (ReturnsPlan r → ms' ≡ ms)
    → Recovers s k a l ms → Recovers s k r l' ms'
recovers_same s k a l ms r e l' ms' f g B z = rw (f z, g z) (subst (λ x. Recovers s k x l ms) (sym e) B z)

-- demand 3 of the planner's list
complete_same : (t : Task) (n w m : ℕ) (r : Answer Planned) (l l' : List ℕ) → (ReturnsPlan r → l' ≡ l) → Complete t n w m r l → Complete t n w m r l'
complete_same t n w m r l l' e C =
    record {
      no_plan = C.no_plan;
      says_so = C.says_so;
      is_red_black_plan = λ z. rw (e z) (C.is_red_black_plan z);
      short = λ z. rw (e z) (C.short z);
      finds = C.finds;
    }

-- the plan list and the mark area as they are left
pub record Left (r : Result Plan Refusal) (plan area plan' area' : List ℕ) : Type 0 where
  pub list : plan' ≡ lent (answer_of r) (length plan) (plan_in (answer_of r) plan)
  pub bytes : area' ≡ lent_bytes (answer_of r) (length area) (marks_in (answer_of r) area)

-- a call that ended with the plan l and the marks ms, its bounds and the way back
module _ (s k : List ℕ) (a : Answer Planned) (l ms plan area plan' area' : List ℕ) (r : Result Plan Refusal) (D : Ended a l ms plan area r) (L : Left r plan area plan' area') where
  list_is : plan' ≡ filled 65535 (answer_of r) (length plan) (plan_in (answer_of r) plan)
  list_is = L.list ∙ sym (lent_is (answer_of r) (length plan) (plan_in (answer_of r) plan))

  bytes_is : area' ≡ filled 0 (answer_of r) (length area) (plan_in (answer_of r) area)
  bytes_is = L.bytes ∙ sym (lent_bytes_is (answer_of r) (length area) (plan_in (answer_of r) area))

  plan_front : ReturnsPlan (answer_of r) → plan_in (answer_of r) plan' ≡ l
  plan_front = front 65535 l plan r D.front plan' list_is

  settled_list : (n : ℕ) → length plan ≡ n → plan' ≡ lent a n l
  settled_list n en = whole 65535 l plan a n en r D.answer D.front plan' list_is ∙ lent_is a n l

  settled_area : (m : ℕ) → length area ≡ m → area' ≡ lent_bytes a m ms
  settled_area m em = whole 0 ms area a m em r D.answer D.marked area' bytes_is ∙ lent_bytes_is a m ms

  settled_bounds : Bounded s k a l × Ceiling s k a × Recovers s k a l ms
      → Bounded s k (answer_of r) (plan_in (answer_of r) plan') × Ceiling s k (answer_of r) × Recovers s k (answer_of r) (plan_in (answer_of r) plan') (marks_in (answer_of r) area')
  settled_bounds B = (
    bounded_same s k a l (answer_of r) D.answer (plan_in (answer_of r) plan') plan_front B.0,
    subst (Ceiling s k) (sym D.answer) B.1,
    recovers_same s k a l ms (answer_of r) D.answer (plan_in (answer_of r) plan') (marks_in (answer_of r) area') plan_front (front 0 ms area r D.marked area' bytes_is) B.2,
  )

pub plan_settled : (s : List ℕ) (n w m : ℕ) (plan area plan' area' : List ℕ) → length plan ≡ n → length area ≡ m → (r : Result Plan Refusal) → let k = relaxed_plan (task_of s) in
    Ended (plan_call s n w m) (plan_of (task_of s)) (marks (task_of s) k) plan area r → Left r plan area plan' area'
    → (plan' ≡ plan_list s n w m) × (area' ≡ plan_marks s n w m) × Demand3 s n w m (answer_of r) (plan_in (answer_of r) plan')
    × Bounded s k (answer_of r) (plan_in (answer_of r) plan') × Ceiling s k (answer_of r) × Recovers s k (answer_of r) (plan_in (answer_of r) plan') (marks_in (answer_of r) area')
unfolding plan_list plan_marks
plan_settled s n w m plan area plan' area' en em r D L =
    let t : Task = task_of s in
    let k = relaxed_plan t in
    let a = plan_call s n w m in
    let ms = marks t k in
    let l = plan_of t in
    let front = plan_front s k a l ms plan area plan' area' r D L in
    let B = settled_bounds s k a l ms plan area plan' area' r D L (plan_call_bounded s n w m) in (
      settled_list s k a l ms plan area plan' area' r D L n en,
      settled_area s k a l ms plan area plan' area' r D L m em,
      λ rec acy ret. complete_same t n w m (answer_of r) l (plan_in (answer_of r) plan') front (rw D.answer (demand3 s n w m rec acy ret)),
      B.0,
      B.1,
      B.2,
    )

-- the same of a caller's repair
pub repair_settled : (s k : List ℕ) (n w m : ℕ) (plan area plan' area' : List ℕ) → length plan ≡ n → length area ≡ m → (r : Result Plan Refusal)
    → Ended (repair_call s k n w m) (repaired (task_of s) k) (marks (task_of s) k) plan area r → Left r plan area plan' area'
    → (plan' ≡ repair_list s k n w m) × (area' ≡ repair_marks s k n w m)
    × Bounded s k (answer_of r) (plan_in (answer_of r) plan') × Ceiling s k (answer_of r) × Recovers s k (answer_of r) (plan_in (answer_of r) plan') (marks_in (answer_of r) area')
unfolding repair_list repair_marks
repair_settled s k n w m plan area plan' area' en em r D L =
    let l = repaired (task_of s) k in
    let ms = marks (task_of s) k in
    let a = repair_call s k n w m in
    let B = settled_bounds s k a l ms plan area plan' area' r D L (repair_call_bounded s k n w m) in (
      settled_list s k a l ms plan area plan' area' r D L n en,
      settled_area s k a l ms plan area plan' area' r D L m em,
      B.0,
      B.1,
      B.2,
    )
