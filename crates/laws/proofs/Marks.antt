-- The marks of a repair (6.10): without the steps that they mark the repaired list is the relaxed plan, stage by stage.
use Prim.Native.Nat.{ℕ, suc, ◌≤◌}
use mathlib.Core.Path.{◌≡◌, refl, ap, ◌∙◌}
use mathlib.Core.Bool.{Bool, true, false}
use mathlib.Core.List.{List, [], ◌∷◌, ◌++◌, append_assoc}
use native.Mathlib.Omega.{arith}
use lib.Dec.{eqb}
use lib.ListN.{length, get_or, drop, replicate, length-append, length-replicate}
use Rattle.planning.specs.Record.{Fact, Action, Task}
use Rattle.planning.specs.Runs.{State, Mode, run, act, actions, black, count, initial, goals}
use Rattle.planning.specs.Repair.{Stage, stage_for, stage_steps, all_steps, stage_marks, all_marks, stages_from, stages, order, ever_after, repaired, marks, unmarked}

-- steps with the mark 1 in front are taken away, steps with the mark 0 stay
without_ones : (l r ms : List ℕ) → unmarked (l ++ r) (replicate (length l) 1 ++ ms) ≡ unmarked r ms
unfolding unmarked
without_ones [] r ms = refl
without_ones (i ∷ l) r ms = without_ones l r ms

with_zeros : (l r ms : List ℕ) → unmarked (l ++ r) (replicate (length l) 0 ++ ms) ≡ l ++ unmarked r ms
unfolding unmarked
with_zeros [] r ms = refl
with_zeros (i ∷ l) r ms = ap (λ k. i ∷ k) (with_zeros l r ms)

-- a stage leaves its action
stage_unmarked : (x : Stage) (r ms : List ℕ) → unmarked (stage_steps x ++ r) (stage_marks x ++ ms) ≡ x.entry ++ unmarked r ms
unfolding stage_steps stage_marks
stage_unmarked x r ms = rw (append_assoc, append_assoc, without_ones x.inserted) (with_zeros x.entry r ms)

-- the actions of stages
entries : List Stage → List ℕ
entries [] = []
entries (x ∷ xs) = x.entry ++ entries xs

stages_unmarked : (xs : List Stage) → unmarked (all_steps xs) (all_marks xs) ≡ entries xs
unfolding all_steps all_marks entries unmarked
stages_unmarked [] = refl
stages_unmarked (x ∷ xs) = rw (stage_unmarked x (all_steps xs) (all_marks xs), stages_unmarked xs) refl

-- those of a walk along the list l are l
entries_are : (f : ℕ → Action) (A : ℕ) (m : Mode) (n : ℕ → ℕ) (vs : List ℕ) (goal : List Fact) (l : List ℕ) (s ever : State) → entries (stages_from f A m n vs goal l s ever) ≡ l
unfolding stages_from entries
entries_are f A m n vs goal [] s ever = refl
entries_are f A m n vs goal (i ∷ l) s ever =
    let x : Stage = stage_for f A m n vs s ever i in
    ap (λ k. i ∷ k) (entries_are f A m n vs goal l (run f m (stage_steps x) s) (ever_after f m (stage_steps x) s ever))

pub unmarked_repaired : (t : Task) (l : List ℕ) → unmarked (repaired t l) (marks t l) ≡ l
unfolding repaired marks stages
unmarked_repaired t l = stages_unmarked (stages t l) ∙ entries_are (act t) (actions t) (black t) (count t) (order t) (goals t) l (initial t) (initial t)

-- a mark a step
marks_long : (xs : List Stage) → length (all_marks xs) ≡ length (all_steps xs)
unfolding all_marks all_steps stage_marks stage_steps
marks_long [] = refl
marks_long (x ∷ xs) = rw (length-append, length-append, length-append, length-append, length-replicate, length-replicate, marks_long xs) refl

pub length_marks : (t : Task) (l : List ℕ) → length (marks t l) ≡ length (repaired t l)
unfolding repaired marks
length_marks t l = marks_long (stages t l)

-- what stays is no longer than the list
unmarked_le : (l ms : List ℕ) → length (unmarked l ms) ≤ length l
unfolding unmarked
unmarked_le [] ms = omega arith
unmarked_le (i ∷ l) ms = go (eqb (get_or ms 0 0) 0) (unmarked_le l (drop 1 ms))
  where
    go : (b : Bool) → length (unmarked l (drop 1 ms)) ≤ length l → length {A = ℕ} (elim b [ true ↦ i ∷ unmarked l (drop 1 ms) | false ↦ unmarked l (drop 1 ms) ]) ≤ suc (length l)
    go true h = omega arith
    go false h = omega arith

pub relaxed_le : (t : Task) (l : List ℕ) → length l ≤ length (repaired t l)
relaxed_le t l = omega (arith, ap length (unmarked_repaired t l), unmarked_le (repaired t l) (marks t l))
