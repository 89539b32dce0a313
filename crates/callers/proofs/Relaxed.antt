-- Check 9 of a caller's relaxed plan, by the run of its entries up to the first that is not below A.
use mathlib.Core.Path.{◌≡◌, refl, sym, ap, ◌∙◌}
use mathlib.Core.Logic.{◌⊎◌, inl, inr}
use mathlib.Core.Bool.{Bool, true, false, ◌&&◌}
use mathlib.Core.List.{List, [], ◌∷◌}
use mathlib.Core.Option.{none, some}
use Prim.Native.Nat.{ℕ, suc, ◌+◌, ◌<◌, ◌≤◌}
use native.Mathlib.Omega.{arith}
use native.Mathlib.Decide.{dec_lt}
use borrow.Author.Tests.{lt-ltb, le-ltb, eqb-true, eqb-false}
use lib.Dec.{eqb}
use lib.ListN.{length, take}
use lib.Seq.{take-length}
use Rattle.planning.specs.Basics.{done, refused, answer, in_order, refuse_at}
use Rattle.planning.specs.Record.{Task}
use Rattle.planning.specs.Runs.{State, holds, step, act, actions, initial, goals, relaxed, run, runs, steps_run, is_plan, Judged, judged, run_by, runs_by, steps_by}
use Rattle.planning.specs.Calls.{length_check, entries_check, relaxed_fault, relaxed_check}
use Rattle.laws.proofs.Calls.{relaxed_check_of}
use Rattle.entries.specs.Entries.{leading}
use Rattle.callers.specs.Callers.{Relaxes}
use Rattle.entries.proofs.Lists.{leading_cons, leading_none, leading_below, entries_below, all_below_of, short_checked}
use Rattle.callers.proofs.Going.{steps_run_pass, steps_run_stop, runs_pass, run_more}

module _ (t : Task) (s : State) (k i : ℕ) (l : List ℕ) where
  fault_pass : i < actions t → holds s (act t i).pre ≡ true → relaxed_fault t s k (i ∷ l) ≡ relaxed_fault t (step relaxed (act t i) s) (suc k) l
  unfolding relaxed_fault
  fault_pass h e = rw (relaxed_fault, lt-ltb i (actions t) h, e) refl

  fault_stop : i < actions t → holds s (act t i).pre ≡ false → relaxed_fault t s k (i ∷ l) ≡ some k
  unfolding relaxed_fault
  fault_stop h e = rw (relaxed_fault, lt-ltb i (actions t) h, e) refl

  fault_unknown : actions t ≤ i → relaxed_fault t s k (i ∷ l) ≡ some k
  unfolding relaxed_fault
  fault_unknown h = rw (relaxed_fault, le-ltb i (actions t) h) refl

-- an entry is not below A, or the entries before it are no relaxed plan from s
abbrev Faulty : Task → State → List ℕ → ℕ → Type 0
Faulty t s l n = (n < length l) ⊎ ((runs (act t) relaxed (take n l) s && holds (run (act t) relaxed (take n l) s) (goals t)) ≡ false)

faulty_rest : (t : Task) (s : State) (i : ℕ) (l : List ℕ) (n : ℕ) → holds s (act t i).pre ≡ true → Faulty t s (i ∷ l) (suc n) → Faulty t (step relaxed (act t i) s) l n
faulty_rest t s i l n e (inl h) = inl (omega arith)
faulty_rest t s i l n e (inr q) = inr (rw (runs_pass (act t) relaxed i (take n l) s e, run_more (act t) relaxed i (take n l) s) at q)

-- the fault is where the run of those entries stops
fault_of_run : (t : Task) (s : State) (k : ℕ) (l : List ℕ) → Faulty t s l (leading (actions t) l) → relaxed_fault t s k l ≡ some (k + steps_run (act t) relaxed (take (leading (actions t) l) l) s)
unfolding leading relaxed_fault steps_by runs_by run_by
fault_of_run t s k [] (inl h) = absurd (omega arith)
fault_of_run t s k [] (inr e) = rw (relaxed_fault, e) (ap some (omega arith))
fault_of_run t s k (i ∷ l) f = go (dec_lt i (actions t)) f (fault_of_run t (step relaxed (act t i) s) (suc k) l)
  where
    s' : State
    s' = step relaxed (act t i) s

    n : ℕ
    n = leading (actions t) l

    Rest : Type 0
    Rest = Faulty t s' l n → relaxed_fault t s' (suc k) l ≡ some (suc k + steps_run (act t) relaxed (take n l) s')

    known : i < actions t → (b : Bool) → holds s (act t i).pre ≡ b → Faulty t s (i ∷ l) (suc n) → Rest → relaxed_fault t s k (i ∷ l) ≡ some (k + steps_run (act t) relaxed (i ∷ take n l) s)
    known c true e f rest = fault_pass t s k i l c e ∙ rest (faulty_rest t s i l n e f) ∙ ap some (rw (steps_run_pass (act t) relaxed i (take n l) s e) (omega arith))
    known c false e f rest = fault_stop t s k i l c e ∙ ap some (rw (steps_run_stop (act t) relaxed i (take n l) s e) (omega arith))

    go : Dec (i < actions t) → Faulty t s (i ∷ l) (leading (actions t) (i ∷ l)) → Rest → relaxed_fault t s k (i ∷ l) ≡ some (k + steps_run (act t) relaxed (take (leading (actions t) (i ∷ l)) (i ∷ l)) s)
    go (yes c) f rest = rw (leading_cons (actions t) i l c) (known c (holds s (act t i).pre) refl (rw (leading_cons (actions t) i l c) at f) rest)
    go (no c) f rest = fault_unknown t s k i l (omega arith) ∙ ap some (rw (leading_none (actions t) i l (omega arith)) (omega arith))

module _ (t : Task) (l : List ℕ) (n : ℕ) (e : n ≡ leading (actions t) l) where
  pub front_entries : entries_check t (take n l) ≡ none
  unfolding entries_check refuse_at
  front_entries = rw (e, leading_below (actions t) 0 l) refl

  front_run : (b : Bool) → is_plan t relaxed (take n l) ≡ b → (runs (act t) relaxed (take n l) (initial t) && holds (run (act t) relaxed (take n l) (initial t)) (goals t)) ≡ b
  unfolding is_plan
  front_run b q = rw (all_below_of (actions t) (take n l) (entries_below t (take n l) front_entries)) at q

  fault_at : Faulty t (initial t) l n → relaxed_fault t (initial t) 0 l ≡ some (steps_run (act t) relaxed (take n l) (initial t))
  fault_at f = fault_of_run t (initial t) 0 l (rw e at f) ∙ ap some (rw e (omega arith))

  -- j is the verdict on the first n entries
  module _ (s : length l ≤ 32768) (within : n ≤ length l) (j : Judged) (verdict : j ≡ judged t relaxed (take n l)) where
    steps_is : j.steps ≡ steps_run (act t) relaxed (take n l) (initial t)
    unfolding judged
    steps_is = ap (λ (x : Judged). x.steps) verdict

    plan_is : j.plan ≡ is_plan t relaxed (take n l)
    unfolding judged
    plan_is = ap (λ (x : Judged). x.plan) verdict

    pub relaxed_passed : j.plan ≡ true → eqb n (length l) ≡ true → done n ≡ answer (in_order (length_check l ∷ relaxed_check t l ∷ [])) (length l)
    unfolding answer
    relaxed_passed p q =
        let a : n ≡ length l = eqb-true n (length l) q in
        let b : is_plan t relaxed l ≡ true = ap (is_plan t relaxed) (sym (rw a (take-length l))) ∙ sym plan_is ∙ p in
        rw (short_checked (relaxed_check t l) l s, relaxed_check_of t l b) (ap done a)

    pub relaxed_refused : (eqb n (length l) ≡ false) ⊎ (j.plan ≡ false) → refused 9 j.steps ≡ answer (in_order (length_check l ∷ relaxed_check t l ∷ [])) (length l)
    unfolding answer relaxed_check refuse_at
    relaxed_refused w = rw (short_checked (relaxed_check t l) l s, fault_at (faulty w)) (ap (refused 9) steps_is)
      where
        faulty : (eqb n (length l) ≡ false) ⊎ (j.plan ≡ false) → Faulty t (initial t) l n
        faulty (inl q) = let a = eqb-false n (length l) q in inl (omega arith)
        faulty (inr q) = inr (front_run false (sym plan_is ∙ q))

-- before the first step
pub relaxes_none : (t : Task) (l : List ℕ) (s : State) → s ≡ initial t → Relaxes t l s 0
unfolding run_by
relaxes_none t l s e = record { runs = omega arith; held = e }
