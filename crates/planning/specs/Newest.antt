-- Newest values (3.12, 3.13).
use Rattle.std.specs.Prelude.{ℕ, zero, suc, List, [], ◌∷◌, eqb, take}
use Rattle.std.proofs.Math.Option.{none, some}
use Rattle.planning.specs.Record.{Action, Task}
use Rattle.planning.specs.Runs.{State, Mode, look, step, variables, variable, act, black, real, initial, run_by, steps_run}

-- 3.12: newest values, one a variable; at first the initial ones; after an action, each effect setting one
abbrev pub Values : Type 0
Values = ℕ → ℕ

unfoldable pub initial_values : Task → Values
initial_values t v = (variable t v).init

unfoldable pub newer : Action → Values → Values
newer a f v = elim (look a.eff v) [ none ↦ f v | some d ↦ d ]

-- 3.1, 3.3, 3.5 and 3.12: a state, its sets and its newest values; the initial one; after an action
pub record Tracked : Type 0 where
  pub sets : State
  pub newest : Values

unfoldable pub tracked : Task → Tracked
tracked t = record { sets = initial t; newest = initial_values t }

unfoldable pub track : Mode → Action → Tracked → Tracked
track m a x = record { sets = step m a x.sets; newest = newer a x.newest }

-- 3.12: the sets that have the newest value and no other
unfoldable pub alone : Values → State
alone f v d = eqb d (f v)

-- 3.13: how many steps of a list run red-black; the state in which that run stops
unfoldable pub red_black_steps : Task → List ℕ → ℕ
red_black_steps t l = steps_run (act t) (black t) l (initial t)

unfoldable pub stops_in : Task → List ℕ → Tracked
stops_in t l = run_by (λ i. track (black t) (act t i)) (take (red_black_steps t l) l) (tracked t)

-- the numbers f 0 to f (n − 1)
unfoldable pub tabulate : ℕ → (ℕ → ℕ) → List ℕ
tabulate zero f = []
tabulate (suc n) f = f 0 ∷ tabulate n (λ v. f (suc v))

-- 3.13: the newest values there, one a variable of the task
unfoldable pub newest_values : Task → List ℕ → List ℕ
newest_values t l = tabulate (variables t) (stops_in t l).newest

-- 3.13: the steps that run red-black and for real
pub record Progress : Type 0 where
  pub steps : ℕ
  pub runs : ℕ

unfoldable pub progress : Task → List ℕ → Progress
progress t l = record { steps = red_black_steps t l; runs = steps_run (act t) real l (initial t) }
