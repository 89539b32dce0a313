-- An action finds the places for its facts, and marks one after the other. Each of its preconditions is marked where each of those still to
-- come is, and the ones passed are.
use mathlib.Core.Path.{◌≡◌, refl, sym, ◌∙◌}
use mathlib.Core.Logic.{◌≢◌}
use mathlib.Core.Bool.{true, false, and-false}
use mathlib.Core.List.{List, [], ◌∷◌}
use Prim.Native.Nat.{ℕ, zero, suc, ◌+◌, ◌*◌, ◌/◌, ◌%◌, ◌<◌, ◌≤◌}
use native.Mathlib.Omega.{arith}
use native.Mathlib.Decide.{ℕ_discrete}
use borrow.Author.Tests.{eq-eqb, ne_eqb}
use lib.ListN.{length, get_or, set, drop, length-set}
use Rattle.std.specs.Prelude.{Option, None, Some}
use Rattle.planning.specs.Runs.{State, variables, actions, count, act, holds}
use Rattle.task.specs.Task.{fact_of, facts_of, task_in, Loaded}
use Rattle.task.proofs.Slices.{sorted_inside}
use Rattle.sets.proofs.Slices.{facts_of_drop, facts_of_end}
use Rattle.returns.specs.Returns.{place, mark_all, marked, Spans, Markable}

pub place_own : (f g : ℕ) → g / 64 ≡ f / 64 → place (Some f) g ≡ f
unfolding place
place_own f g e = rw (eq-eqb (g / 64) (f / 64) e) refl

pub place_other : (f g : ℕ) → g / 64 ≢ f / 64 → place (Some f) g ≡ g
unfolding place
place_other f g n = rw (ne_eqb (g / 64) (f / 64) n) refl

pub place_none : (g : ℕ) → place None g ≡ g
unfolding place
place_none g = refl

-- a fact of one of n variables is marked below 64 × n
pub place_inside : (n : ℕ) (o : Option ℕ) (g : ℕ) → g / 64 < n → place o g < 64 * n
place_inside n None g b = rw (place_none g) (omega arith)
place_inside n (Some f) g b = go (ℕ_discrete (g / 64) (f / 64))
  where
    go : Dec (g / 64 ≡ f / 64) → place (Some f) g < 64 * n
    go (yes e) = rw (place_own f g e) (omega arith)
    go (no e) = rw (place_other f g e) (omega arith)

-- the facts of an action are of the task's variables, so that it finds the places for them
module _ (task : List ℕ) (L : Loaded task) (i : ℕ) (h : i < actions (task_in task)) (facts : List ℕ) where
  pub pre_inside : facts_of facts ≡ (act (task_in task) i).pre → (k : ℕ) → k < length facts → get_or facts k 0 / 64 < variables (task_in task)
  pre_inside e k l = sorted_inside (variables (task_in task)) (count (task_in task)) facts 0 (rw e (L.formed.pre_sorted i)) k l

  module _ (marks : List ℕ) (S : Spans (task_in task) marks) where
    pub pre_markable : facts_of facts ≡ (act (task_in task) i).pre → (o : Option ℕ) → Markable facts o marks
    pre_markable e o k l = omega (arith, S, place_inside (variables (task_in task)) o (get_or facts k 0) (pre_inside e k l))

    pub pre_places : facts_of facts ≡ (act (task_in task) i).pre → (k : ℕ) → k < length facts → get_or facts k 0 < length marks
    pre_places e k l = omega (arith, S, pre_inside e k l)

-- the number of a fact
number : (f : ℕ) → 64 * (f / 64) + f % 64 ≡ f
number f = omega arith

-- the loop: marks so far with those of the facts from place k on are the marks of all
pub record Marking (facts : List ℕ) (o : Option ℕ) (i : ℕ) (marks₀ marks : List ℕ) (k : ℕ) : Type 0 where
  pub long : length marks ≡ length marks₀
  pub so_far : mark_all i o (facts_of facts) marks₀ ≡ mark_all i o (facts_of (drop k facts)) marks

pub marking_start : (facts : List ℕ) (o : Option ℕ) (i : ℕ) (marks : List ℕ) → Marking facts o i marks marks 0
marking_start facts o i marks = record { long = refl; so_far = refl }

module _ (facts : List ℕ) (o : Option ℕ) (i : ℕ) (marks₀ marks : List ℕ) (k : ℕ) (M : Marking facts o i marks₀ marks k) where
  pub marking_turn : k < length facts → (g p : ℕ) → g ≡ get_or facts k 0 → p ≡ place o g → Marking facts o i marks₀ (set marks p i) (k + 1)
  unfolding mark_all fact_of
  marking_turn h g p e q = record {
    long = length-set marks p i ∙ M.long;
    so_far = M.so_far ∙ rw (facts_of_drop facts k h, mark_all, number (get_or facts k 0), ← e, ← q) refl;
  }

  pub marking_end : length facts ≤ k → marks ≡ mark_all i o (facts_of facts) marks₀
  unfolding mark_all
  marking_end h = sym (M.so_far ∙ rw (facts_of_end facts k h) refl)

-- whether each fact is marked, by the one at place k
module _ (marks : List ℕ) (i : ℕ) (facts : List ℕ) (k : ℕ) (h : k < length facts) (f : ℕ) (e : f ≡ get_or facts k 0) where
  pub marked_here : get_or marks f 0 ≡ i → holds (marked i marks) (facts_of (drop k facts)) ≡ holds (marked i marks) (facts_of (drop (k + 1) facts))
  unfolding holds marked fact_of
  marked_here q = rw (facts_of_drop facts k h, holds, number (get_or facts k 0), ← e, eq-eqb (get_or marks f 0) i q) refl

  pub unmarked_here : get_or marks f 0 ≢ i → holds (marked i marks) (facts_of (drop k facts)) ≡ false
  unfolding holds marked fact_of
  unmarked_here q = rw (facts_of_drop facts k h, holds, number (get_or facts k 0), ← e, ne_eqb (get_or marks f 0) i q) refl

-- one that is not is enough
pub unmarked_at : (m : State) (facts : List ℕ) (k : ℕ) → holds m (facts_of (drop k facts)) ≡ false → holds m (facts_of facts) ≡ false
unfolding holds facts_of fact_of
unmarked_at m facts zero e = e
unmarked_at m [] (suc k) e = e
unmarked_at m (x ∷ xs) (suc k) e = rw (unmarked_at m xs k e) (and-false (m (x / 64) (x % 64)))

pub marked_end : (m : State) (facts : List ℕ) (k : ℕ) → length facts ≤ k → holds m (facts_of (drop k facts)) ≡ true
unfolding holds
marked_end m facts k h = rw (facts_of_end facts k h) refl
