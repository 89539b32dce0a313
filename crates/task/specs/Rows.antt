-- A row of the list written.
use Rattle.std.specs.Prelude.{◌≡◌, ◌⊎◌, List, ℕ, ◌+◌, ◌*◌, ◌<◌, ◌≤◌, length, get_or}
use Rattle.task.specs.Task.{cell}

-- a, b, c, d are row r, and all else is kept
pub record RowWritten (r a b c d : ℕ) (before after : List ℕ) : Type 0 where
  pub long : length after ≡ length before
  pub first : cell after r 0 ≡ a
  pub second : cell after r 1 ≡ b
  pub third : cell after r 2 ≡ c
  pub fourth : cell after r 3 ≡ d
  pub kept : (k : ℕ) → (k < 4 * r) ⊎ (4 * r + 4 ≤ k) → get_or after k 0 ≡ get_or before k 0
