-- Moves for wanted facts, and an action behind them: the facts are a part of the loaded task, the action's preconditions.
use mathlib.Core.Path.{◌≡◌, refl, sym, ap, ◌∙◌}
use mathlib.Core.Bool.{true, false}
use mathlib.Core.List.{List, [], ◌∷◌, ◌++◌, append-nil}
use Prim.Native.Nat.{ℕ, ◌+◌, ◌-◌, ◌<◌, ◌≤◌}
use native.Mathlib.Omega.{arith}
use lib.ListN.{length, get_or, take, drop, length-drop}
use lib.Seq.{take-add, take_at, drop_at, length-take-le, take-append-le}
use Rattle.planning.specs.Record.{Fact, Task}
use Rattle.planning.specs.Runs.{State, variables, count, act, black, goals}
use Rattle.planning.specs.Repair.{black_met}
use Rattle.task.specs.Task.{facts_of, task_in, Loaded}
use Rattle.task.proofs.Slices.{sorted_inside}
use Rattle.std.specs.Prelude.{Option, None, Some}
use Rattle.asking.specs.declared.Inserted.{Inserted}
use Rattle.asking.specs.Asking.{written_in, Searched, Put}
use Rattle.asking.proofs.Putting.{pre_fitting}
use Rattle.stages.specs.Stages.{Wanted, filled, moved, steps_for, last_moves, stage_of, filled_searches, moved_searches, stage_searches}

pub moves_none : (t : Task) (K s : State) (w : List Fact) (plan : List ℕ) (a : ℕ) → black_met (black t) s w ≡ true → a ≤ length plan → Put plan plan a (moved t K s w) (Some a)
unfolding moved
moves_none t K s w plan a e h = rw (e, moved) (omega arith, h, sym (append-nil (take a plan)))

pub searches_none : (t : Task) (K s : State) (w : List Fact) → black_met (black t) s w ≡ true → 0 ≡ moved_searches t K s w
unfolding moved_searches
searches_none t K s w e = rw (e, moved_searches) refl

pub searches_some : (t : Task) (K s : State) (w : List Fact) → black_met (black t) s w ≡ false → filled_searches t K s w ≡ moved_searches t K s w
unfolding moved_searches
searches_some t K s w e = sym (rw (e, moved_searches) refl)

-- the passes filled the part of the plan from place a on
pub record Passed (t : Task) (K s : State) (w : List Fact) (plan : List ℕ) (a : ℕ) (ys : List ℕ) : Type 0 where
  pub unmet : black_met (black t) s w ≡ false
  pub within : a ≤ length plan
  pub long : length ys ≡ length (take (length plan - a) (drop a plan))

module _ {t : Task} {K s : State} {w : List Fact} {plan : List ℕ} {a : ℕ} {ys : List ℕ} (P : Passed t K s w plan a ys) where
  moved_is : moved t K s w ≡ filled t K s w
  unfolding moved
  moved_is = rw (P.unmet, moved) refl

  abbrev part' : List ℕ
  part' = take (length plan - a) (drop a plan)

  part_length : length part' ≡ length plan - a
  part_length = length-take-le (length plan - a) (drop a plan) (omega (arith, length-drop a plan))

  pub moves_long : Put part' ys 0 (filled t K s w) None → length plan < a + length (moved t K s w)
  moves_long z =
      omega (arith, z, part_length, ap length moved_is, P.within)

  module _ (n : ℕ) (told : Put part' ys 0 (filled t K s w) (Some n)) where
    pub moves_fit : a + n ≤ length plan
    moves_fit = omega (arith, told.1, part_length, P.within)

    pub moves_some : Put plan (take a plan ++ (ys ++ drop (length plan - a) (drop a plan))) a (moved t K s w) (Some (a + n))
    moves_some =
        let behind : List ℕ = ys ++ drop (length plan - a) (drop a plan) in
        let f : length (take a plan) ≡ a = length-take-le a plan P.within in
        let front : take a (take a plan ++ behind) ≡ take a plan = take_at (take a plan) behind a f in
        let rest : drop a (take a plan ++ behind) ≡ behind = drop_at (take a plan) behind a f in
        let kept = take-append-le n ys (drop (length plan - a) (drop a plan)) (omega (arith, told.1, P.long)) in
        (omega (arith, told.0, ap length moved_is), moves_fit, take-add a n (take a plan ++ behind) ∙ rw (front, rest, kept, told.2, moved_is) refl)

-- the facts of a slice that states the preconditions of an action
pub part_wanted : (task : List ℕ) → Loaded task → (i : ℕ) (part : List ℕ) → facts_of part ≡ (act (task_in task) i).pre → Wanted (task_in task) part
part_wanted task L i part e = record {
  inside = sorted_inside (variables (task_in task)) (count (task_in task)) part 0 (rw e (L.formed.pre_sorted i));
  fitting = rw e (pre_fitting (task_in task) L.formed i);
}

-- a stage, where nothing is left of the relaxed plan; where something is
module _ (t : Task) (K s : State) (plan plan' : List ℕ) (a : ℕ) (r : Option Inserted) where
  pub stage_last : (l : List ℕ) → length l ≡ 0 → Put plan plan' a (last_moves t K s) (written_in r) → Searched (moved_searches t K s (goals t)) r
      → Put plan plan' a (stage_of t K s l) (written_in r) × Searched (stage_searches t K s l) r
  unfolding stage_of stage_searches
  stage_last [] e p n = (p, n)
  stage_last (i ∷ l) e p n = absurd (omega (arith, e))

  pub stage_first : (l : List ℕ) → (length l ≡ 0 → ⊥) → Put plan plan' a (steps_for t K s (get_or l 0 0)) (written_in r) → Searched (moved_searches t K s (act t (get_or l 0 0)).pre) r
      → Put plan plan' a (stage_of t K s l) (written_in r) × Searched (stage_searches t K s l) r
  unfolding stage_of stage_searches
  stage_first [] e p n = absurd (e refl)
  stage_first (i ∷ l) e p n = (p, n)
