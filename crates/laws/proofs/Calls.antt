-- The two calls that repair. Check 9 of a caller's list passes exactly if the list is a relaxed plan, and check 10 exactly if the
-- planner has one of its own, so that what a call returns is a red-black plan of at most n × P steps, by at most n × P × m path searches,
-- and what is left of it without its marked steps repairs to the same.
use Prim.Native.Nat.{ℕ, suc, ◌*◌, ◌≤◌}
use mathlib.Core.Path.{◌≡◌, refl, sym, ap, ◌∙◌}
use mathlib.Core.Bool.{Bool, true, false, ◌&&◌}
use mathlib.Core.List.{List, [], ◌∷◌}
use mathlib.Core.Option.{Option, none, some}
use lib.Dec.{T, leb, ltb, le→leb}
use lib.ListN.{length}
use native.Mathlib.Omega.{arith}
use native.Mathlib.Nat.{mul-le-mul_right}
use Rattle.planning.specs.Basics.{check, refuse_at, Answer, refused, done}
use Rattle.planning.specs.Record.{Task, task_of, record_check}
use Rattle.planning.specs.Runs.{State, holds, step, actions, act, relaxed, initial, goals, run, runs, all_below, is_plan, run_by, runs_by}
use Rattle.planning.specs.Relaxed.{reaches_goals, facts_reached, relaxed_plan}
use Rattle.planning.specs.Painting.{cyclic, unreturned, acyclic_check, return_check}
use Rattle.planning.specs.Repair.{repaired, searches, marks}
use Rattle.planning.specs.Calls.{lent, lent_bytes, capacity_of, length_check, room_check, goals_check, relaxed_fault, relaxed_check, Planned, planned}
use Rattle.planning.specs.Calls.{repair_call, repair_list, repair_marks, plan_of, plan_call}
use Rattle.planning.specs.Existence.{black_product, search_bound, step_bound, RedBlackPlan, Bounded, searches_in, Ceiling, Recovered, Recovers}
use Rattle.laws.proofs.Tests.{T→true, true→T, and_l, and_r, and_i}
use Rattle.laws.proofs.Checks.{check_none, check_pass, refuse_at_none, answer_done, answer_refused, answer_passed, here, later}
use Rattle.laws.proofs.Formed.{Formed, formed_of}
use Rattle.laws.proofs.Achievers.{relaxed_plan_is_plan, relaxed_plan_length}
use Rattle.laws.proofs.Sizes.{capacity_of_le}
use Rattle.laws.proofs.Marks.{unmarked_repaired, length_marks, relaxed_le}
use Rattle.laws.proofs.Painting.{repaired_is_plan, repaired_length, searches_few}

-- a list without a fault: entries below A that apply in turn, and the goals at the end
relaxed_fault_none : (t : Task) (s : State) (k : ℕ) (l : List ℕ) → relaxed_fault t s k l ≡ none
    → T (all_below (actions t) l) × T (runs (act t) relaxed l s) × T (holds (run (act t) relaxed l s) (goals t))
unfolding relaxed_fault all_below runs_by run_by
relaxed_fault_none t s k [] e = go (holds s (goals t)) refl e
  where
    go : (b : Bool) → holds s (goals t) ≡ b → ◌≡◌ {A = Option ℕ} (elim b [ true ↦ none | false ↦ some k ]) none → Unit {0} × Unit {0} × T (holds s (goals t))
    go true p e = (tt, tt, rw p tt)
    go false p e = let z : ◌≡◌ {A = ℕ} 0 1 = cc in absurd (omega arith)
relaxed_fault_none t s k (i ∷ l) e = go (ltb i (actions t) && holds s (act t i).pre) refl e (relaxed_fault_none t (step relaxed (act t i) s) (suc k) l)
  where
    s' : State
    s' = step relaxed (act t i) s

    Rest : Type 0
    Rest = T (all_below (actions t) l) × T (runs (act t) relaxed l s') × T (holds (run (act t) relaxed l s') (goals t))

    go : (b : Bool) → (ltb i (actions t) && holds s (act t i).pre) ≡ b → ◌≡◌ {A = Option ℕ} (elim b [ true ↦ relaxed_fault t s' (suc k) l | false ↦ some k ]) none
        → (relaxed_fault t s' (suc k) l ≡ none → Rest)
        → T (ltb i (actions t) && all_below (actions t) l) × T (holds s (act t i).pre && runs (act t) relaxed l s') × T (holds (run (act t) relaxed l s') (goals t))
    go true p e f =
        let r = f e in
        let q = true→T (ltb i (actions t) && holds s (act t i).pre) p in (
          and_i (ltb i (actions t)) (all_below (actions t) l) (and_l (ltb i (actions t)) (holds s (act t i).pre) q) r.0,
          and_i (holds s (act t i).pre) (runs (act t) relaxed l s') (and_r (ltb i (actions t)) (holds s (act t i).pre) q) r.1,
          r.2,
        )
    go false p e f = let z : ◌≡◌ {A = ℕ} 0 1 = cc in absurd (omega arith)

relaxed_fault_of : (t : Task) (s : State) (k : ℕ) (l : List ℕ) → T (all_below (actions t) l) → T (runs (act t) relaxed l s) → T (holds (run (act t) relaxed l s) (goals t))
    → relaxed_fault t s k l ≡ none
unfolding relaxed_fault all_below runs_by run_by
relaxed_fault_of t s k [] b r g = rw (T→true (holds s (goals t)) g, relaxed_fault) refl
relaxed_fault_of t s k (i ∷ l) b r g =
    rw (T→true (ltb i (actions t)) (search and_l), T→true (holds s (act t i).pre) (search and_l), relaxed_fault)
    (relaxed_fault_of t (step relaxed (act t i) s) (suc k) l (search and_r) (search and_r) g)

pub relaxed_check_none : (t : Task) (l : List ℕ) → relaxed_check t l ≡ none → is_plan t relaxed l ≡ true
unfolding relaxed_check is_plan
relaxed_check_none t l e =
    let h = relaxed_fault_none t (initial t) 0 l (refuse_at_none 9 (relaxed_fault t (initial t) 0 l) e) in
    T→true (all_below (actions t) l && (runs (act t) relaxed l (initial t) && holds (run (act t) relaxed l (initial t)) (goals t)))
    (and_i (all_below (actions t) l) (runs (act t) relaxed l (initial t) && holds (run (act t) relaxed l (initial t)) (goals t)) h.0
    (and_i (runs (act t) relaxed l (initial t)) (holds (run (act t) relaxed l (initial t)) (goals t)) h.1 h.2))

pub relaxed_check_of : (t : Task) (l : List ℕ) → is_plan t relaxed l ≡ true → relaxed_check t l ≡ none
unfolding relaxed_check is_plan refuse_at
relaxed_check_of t l e =
    let h = true→T (all_below (actions t) l && (runs (act t) relaxed l (initial t) && holds (run (act t) relaxed l (initial t)) (goals t))) e in
    rw (relaxed_fault_of t (initial t) 0 l (search and_l) (search (and_l, and_r)) (search (and_l, and_r))) refl

-- what an answered call says of the repair of the list k: it is a red-black plan, steps and searches keep to their bounds, and k is
-- repaired to it wherever it fits
pub record Returned (s k : List ℕ) (p : Planned) : Type 0 where
  pub result : p ≡ planned (task_of s) k
  pub is_red_black_plan : RedBlackPlan (task_of s) (repaired (task_of s) k)
  pub short : length (repaired (task_of s) k) ≤ length k * black_product (task_of s)
  pub few : searches (task_of s) k ≤ search_bound (task_of s) k
  pub again : (n w m : ℕ) → length (repaired (task_of s) k) ≤ capacity_of n w m → repair_call s k n w m ≡ done p

module _ (s k : List ℕ) (p : Planned) (e : p ≡ planned (task_of s) k) (rec : record_check s ≡ none) (seven : acyclic_check (task_of s) ≡ none) (eight : return_check (task_of s) ≡ none) where
  -- a list that 9 passes is not too long, as its repair is no shorter
  repairs : relaxed_check (task_of s) k ≡ none → (n w m : ℕ) → length (repaired (task_of s) k) ≤ capacity_of n w m → repair_call s k n w m ≡ done p
  unfolding repair_call length_check room_check
  repairs nine n w m h =
      let t : Task = task_of s in
      let few : length k ≤ 32768 = omega (arith, relaxed_le t k, (capacity_of_le n w m).3) in
      answer_done _ (planned t k) (
        rec,
        (
          seven,
          (
            eight,
            (
              check_pass (leb (length k) 32768) 13 32768 (le→leb (length k) 32768 few),
              (nine, (check_pass (leb (length (repaired t k)) (capacity_of n w m)) 11 (capacity_of n w m) (le→leb (length (repaired t k)) (capacity_of n w m) h), tt)),
            ),
          ),
        ),
      )
      ∙ ap done (sym e)

  returned : (Formed (task_of s) → is_plan (task_of s) relaxed k ≡ true) → Returned s k p
  unfolding acyclic_check return_check
  returned r =
      let t : Task = task_of s in
      let F = formed_of s rec in
      let acy = refuse_at_none 7 (cyclic t) seven in
      let ret = refuse_at_none 8 (unreturned t) eight in
      record {
        result = e;
        is_red_black_plan = repaired_is_plan t F acy ret k (r F);
        short = repaired_length t F acy ret k (r F);
        few = searches_few t F acy ret k (r F);
        again = repairs (relaxed_check_of t k (r F));
      }

-- what is left of the plan without its marked steps
recovered : (s k : List ℕ) (p : Planned) → Returned s k p → Recovered s k (done p) (repaired (task_of s) k) (marks (task_of s) k)
unfolding repair_list repair_marks lent lent_bytes
recovered s k p R =
    let t : Task = task_of s in
    let u = unmarked_repaired t k in
    record {
      gives_back = u;
      answer' = λ n w m h. rw u (R.again n w m h);
      plan' = λ n w m h. rw (u, R.again n w m h, lent) refl;
      marks' = λ n w m h. rw (u, R.again n w m h, lent_bytes, length_marks t k) refl;
    }

-- the bounds of such a call, and the way back
bounds : (s k : List ℕ) (a : Answer Planned) → ((p : Planned) → a ≡ done p → Returned s k p)
    → Bounded s k a (repaired (task_of s) k) × Ceiling s k a × Recovers s k a (repaired (task_of s) k) (marks (task_of s) k)
unfolding searches_in planned
bounds s k (refused _ _) f = (λ z. absurd z, omega arith, λ z. absurd z)
bounds s k (done p) f = let R = f p refl in (λ _. (R.is_red_black_plan, R.short), rw R.result R.few, λ _. recovered s k p R)

pub repair_call_returned : (s l : List ℕ) (n w m : ℕ) (p : Planned) → repair_call s l n w m ≡ done p → Returned s l p
unfolding repair_call
repair_call_returned s l n w m p e =
    let P = answer_passed _ (planned (task_of s) l) p e in
    let Q = P.0 in
    returned s l p (sym P.1) Q.0 Q.1.0 Q.1.1.0 (λ _. relaxed_check_none (task_of s) l Q.1.1.1.1.0)

pub repair_call_bounded : (s k : List ℕ) (n w m : ℕ)
    → Bounded s k (repair_call s k n w m) (repaired (task_of s) k) × Ceiling s k (repair_call s k n w m) × Recovers s k (repair_call s k n w m) (repaired (task_of s) k) (marks (task_of s) k)
repair_call_bounded s k n w m = bounds s k (repair_call s k n w m) (repair_call_returned s k n w m)

-- the planner's own relaxed plan, repaired
module _ (t : Task) (F : Formed t) (acy : cyclic t ≡ none) (ret : unreturned t ≡ none) (sol : reaches_goals t ≡ true) where
  pub plan_of_is_plan : RedBlackPlan t (plan_of t)
  unfolding plan_of
  plan_of_is_plan = repaired_is_plan t F acy ret (relaxed_plan t) (relaxed_plan_is_plan t F sol)

  pub plan_of_length : length (plan_of t) ≤ step_bound t
  unfolding plan_of step_bound
  plan_of_length = omega (arith, repaired_length t F acy ret (relaxed_plan t) (relaxed_plan_is_plan t F sol), mul-le-mul_right (black_product t) (relaxed_plan_length t F))

pub plan_call_returned : (s : List ℕ) (n w m : ℕ) (p : Planned) → plan_call s n w m ≡ done p → Returned s (relaxed_plan (task_of s)) p
unfolding plan_call goals_check
plan_call_returned s n w m p e =
    let t : Task = task_of s in
    let P = answer_passed _ (planned t (relaxed_plan t)) p e in
    let Q = P.0 in
    let sol = T→true (reaches_goals t) (check_none (reaches_goals t) 10 (facts_reached t) Q.1.1.1.0) in
    returned s (relaxed_plan t) p (sym P.1) Q.0 Q.1.0 Q.1.1.0 (λ F. relaxed_plan_is_plan t F sol)

pub plan_call_bounded : (s : List ℕ) (n w m : ℕ) → let k = relaxed_plan (task_of s) in
    Bounded s k (plan_call s n w m) (plan_of (task_of s)) × Ceiling s k (plan_call s n w m) × Recovers s k (plan_call s n w m) (plan_of (task_of s)) (marks (task_of s) k)
unfolding plan_of
plan_call_bounded s n w m = bounds s (relaxed_plan (task_of s)) (plan_call s n w m) (plan_call_returned s n w m)

-- with the record accepted and the painting passed, the planner answers in one of three ways
module _ (s : List ℕ) (n w m : ℕ) (rec : record_check s ≡ none) (acy : cyclic (task_of s) ≡ none) (ret : unreturned (task_of s) ≡ none) where
  pub plan_call_none : reaches_goals (task_of s) ≡ false → plan_call s n w m ≡ refused 10 (facts_reached (task_of s))
  unfolding plan_call acyclic_check return_check goals_check refuse_at check
  plan_call_none e = answer_refused _ (planned (task_of s) (relaxed_plan (task_of s))) (record { number = 10; place = facts_reached (task_of s) })
      (later rec (later (rw acy refl) (later (rw ret refl) (here (rw e refl)))))

  pub plan_call_long : reaches_goals (task_of s) ≡ true → leb (length (plan_of (task_of s))) (capacity_of n w m) ≡ false → plan_call s n w m ≡ refused 11 (capacity_of n w m)
  unfolding plan_call acyclic_check return_check goals_check room_check refuse_at check
  plan_call_long e f = answer_refused _ (planned (task_of s) (relaxed_plan (task_of s))) (record { number = 11; place = capacity_of n w m })
      (later rec (later (rw acy refl) (later (rw ret refl) (later (rw e refl) (here (rw f refl))))))

  pub plan_call_done : reaches_goals (task_of s) ≡ true → leb (length (plan_of (task_of s))) (capacity_of n w m) ≡ true → plan_call s n w m ≡ done (planned (task_of s) (relaxed_plan (task_of s)))
  unfolding plan_call acyclic_check return_check goals_check room_check refuse_at check
  plan_call_done e f = answer_done _ (planned (task_of s) (relaxed_plan (task_of s))) (rec, (rw acy refl, (rw ret refl, (rw e refl, (rw f refl, tt)))))
