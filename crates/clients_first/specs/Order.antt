-- What is written for the clients-first order.
use Rattle.std.specs.Prelude.{◌≡◌, ◌⊎◌, List, ℕ, ◌+◌, ◌<◌, ◌≤◌, length, get_or}
use Rattle.std.proofs.Math.Seq.{slice}
use Rattle.planning.specs.Repair.{order}
use Rattle.task.specs.Task.{cell, task_in, order_from, nexts_from}
use Rattle.task.specs.Links.{order_in}

-- the first n places of the order are the clients-first order, and all else is kept
pub record Filled (n : ℕ) (before after : List ℕ) : Type 0 where
  pub few : n ≤ 64
  pub long : length after ≡ length before
  pub ordered : slice order_from (order_from + n) after ≡ order (task_in before)
  pub kept : (k : ℕ) → (k < order_from) ⊎ (nexts_from ≤ k) → get_or after k 0 ≡ get_or before k 0

-- the order is written, and all else is kept
pub record Ordered (before after : List ℕ) : Type 0 where
  pub few : cell after 0 2 ≤ 64
  pub long : length after ≡ length before
  pub ordered : order_in after ≡ order (task_in before)
  pub kept : (k : ℕ) → (k ≡ 2 → ⊥) → (k < order_from) ⊎ (nexts_from ≤ k) → get_or after k 0 ≡ get_or before k 0
