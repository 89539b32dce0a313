-- Reading the steps and the marks of a sheet, while some are left.
use Rattle.std.specs.Prelude.{◌≡◌, List, ◌++◌, ℕ, ◌+◌, ◌-◌, ◌*◌, ◌≤◌, take}
use Rattle.planning.specs.Sheet.{steps_at, marks_at}

-- the first r of n steps of the bytes s stand in front of the list l
abbrev pub Begun : List ℕ → ℕ → ℕ → List ℕ → ℕ → Type 0
Begun s w n l r = (r ≤ n) × (steps_at s w 53 n ≡ take r l ++ steps_at s w (53 + (w + 10) * r) (n - r))

-- the first r of n marks of the bytes s stand in front of the area l
abbrev pub MarksBegun : List ℕ → ℕ → List ℕ → ℕ → Type 0
MarksBegun s n l r = (r ≤ n) × (marks_at s 1 53 n ≡ take r l ++ marks_at s 1 (53 + 11 * r) (n - r))
