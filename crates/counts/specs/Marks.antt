-- The marks of a stage: 1 for a move, 0 for an action.
use Rattle.std.specs.Prelude.{Bool, true, false, List, [], ◌∷◌, ◌++◌, ℕ, ◌-◌, replicate}

-- the marks of n steps: moves, and behind them an action if there is one
unfoldable pub marks_for : Bool → ℕ → List ℕ
marks_for true n = replicate (n - 1) 1 ++ (0 ∷ [])
marks_for false n = replicate n 1
