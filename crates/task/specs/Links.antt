-- The parts of a loaded task that are written once the painting is looked at: chains of actions by the black fact to which they change a
-- variable, and the clients-first order. Check 8 and the search for paths go through a chain instead of all actions.
use Rattle.std.specs.Prelude.{◌≡◌, ◌⊎◌, List, ℕ, ◌+◌, ◌*◌, ◌<◌, ◌≤◌, T, length, get_or, set}
use Rattle.std.proofs.Math.Option.{none}
use Rattle.std.proofs.Math.Seq.{slice}
use Rattle.planning.specs.Record.{Task}
use Rattle.planning.specs.Runs.{has, actions, act, black}
use Rattle.planning.specs.Painting.{reduced_effects, cyclic, unreturned}
use Rattle.planning.specs.Repair.{order}
use Rattle.task.specs.Task.{order_from, nexts_from, links_end, cell, heads_at, task_in, Loaded}

abbrev pub head_at : List ℕ → ℕ → ℕ
head_at task f = get_or task (heads_at task + f) 0

abbrev pub next_at : List ℕ → ℕ → ℕ
next_at task i = get_or task (nexts_from + i) 0

unfoldable pub order_in : List ℕ → List ℕ
order_in task = slice order_from (order_from + cell task 0 2) task

-- x is the least number from a on, below n, that P holds of; 65,535 if there is none
pub record Next (n : ℕ) (P : ℕ → Type 0) (a x : ℕ) : Type 0 where
  pub least : (j : ℕ) → a ≤ j → j < n → j < x → P j → ⊥
  pub found : (x ≡ 65535) ⊎ ((a ≤ x) × (x < n) × P x)

-- action i changes v to e: a reduced effect of it
abbrev pub Changes : Task → ℕ → ℕ → ℕ → Type 0
Changes t v e i = T (has (reduced_effects (act t i)) v e)

-- for each fact of a black variable the actions that change the variable to it, rising: the first of them, and the next behind each
pub record Chained (t : Task) (task : List ℕ) : Type 0 where
  pub heads : (v e : ℕ) → v < 64 → e < 64 → T (black t v) → Next (actions t) (Changes t v e) 0 (head_at task (64 * v + e))
  pub links : (v e i : ℕ) → T (black t v) → i < actions t → Changes t v e i → Next (actions t) (Changes t v e) (i + 1) (next_at task i)

-- what searches and repair stand on: a loaded task whose painting passed, with its chains and its order
pub record Prepared (task : List ℕ) : Type 0 where
  pub loaded : Loaded task
  pub acyclic : cyclic (task_in task) ≡ none
  pub returns : unreturned (task_in task) ≡ none
  pub chained : Chained (task_in task) task
  pub few : cell task 0 2 ≤ 64
  pub ordered : order_in task ≡ order (task_in task)

-- a place of the three parts, or of the number of black variables; nothing stands behind the heads
abbrev pub Link : List ℕ → ℕ → Type 0
Link task k = (k ≡ 2) ⊎ ((order_from ≤ k) × ((k < links_end) ⊎ (heads_at task ≤ k)))

-- the list differs from what it was before in such places alone
pub record Relinked (before after : List ℕ) : Type 0 where
  pub long : length after ≡ length before
  pub kept : (k : ℕ) → (Link before k → ⊥) → get_or after k 0 ≡ get_or before k 0

-- no action is linked for the first n facts
pub record Unlinked (n : ℕ) (before after : List ℕ) : Type 0 where
  pub relinked : Relinked before after
  pub heads : (f : ℕ) → f < n → head_at after f ≡ 65535

-- action i in front of the chain of fact f
unfoldable pub linked : ℕ → ℕ → List ℕ → List ℕ
linked f i task = set (set task (nexts_from + i) (head_at task f)) (heads_at task + f) i
