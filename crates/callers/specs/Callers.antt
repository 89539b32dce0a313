-- A caller's relaxed plan: its checks, and the relaxed run of a list from a step on.
use Rattle.std.specs.Prelude.{◌≡◌, ◌&&◌, List, [], ◌∷◌, ℕ, ◌≤◌, eqb, length, take}
use Rattle.planning.specs.Basics.{Check, in_order}
use Rattle.planning.specs.Record.{Task}
use Rattle.planning.specs.Runs.{State, holds, relaxed, act, initial, goals, run, steps_run, Judged}
use Rattle.planning.specs.Calls.{length_check, relaxed_check}

-- the checks of a caller's relaxed plan
abbrev pub caller_check : Task → List ℕ → Check
caller_check t l = in_order (length_check l ∷ relaxed_check t l ∷ [])

-- a list of which n steps run, with the state s behind them: a plan if these are all and s holds the goals
unfoldable pub judged_at : Task → List ℕ → State → ℕ → Judged
judged_at t l s n = record { steps = n; plan = eqb n (length l) && holds s (goals t) }

-- the first k steps of the list l run relaxed, and the state behind them is s
pub record Relaxes (t : Task) (l : List ℕ) (s : State) (k : ℕ) : Type 0 where
  pub runs : k ≤ steps_run (act t) relaxed l (initial t)
  pub held : s ≡ run (act t) relaxed (take k l) (initial t)
