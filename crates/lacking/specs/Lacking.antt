-- Arcs that lack their return. Action i marks with 2 × i; an action that it tries for keeping marks with 2 × i + 1.
use Rattle.std.specs.Prelude.{◌≡◌, ◌⊎◌, Bool, not, ◌&&◌, List, Option, None, IfSome, ℕ, ◌+◌, ◌*◌, ◌/◌, ◌%◌, ◌<◌, T, eqb, length, get_or}
use Rattle.std.proofs.Math.Option as math
use Rattle.planning.specs.Basics.{some_below}
use Rattle.planning.specs.Record.{Task}
use Rattle.planning.specs.Runs.{State, has, look, variables, actions, act, count}
use Rattle.returns.specs.Returns.{Spans, returned}
use Rattle.lacking.specs.declared.Allowing.{Allowing}

-- no fact has a mark from i on; 65,535 is none
pub record Unmarked (t : Task) (i : ℕ) (marks : List ℕ) : Type 0 where
  pub long : Spans t marks
  pub before : (g : ℕ) → g < 64 * variables t → (get_or marks g 0 < i) ⊎ (get_or marks g 0 ≡ 65535)

-- for some d from a on, of n, other than e, no action changes v to d and needs marked facts only
unfoldable pub unreturned_from : Task → State → ℕ → ℕ → ℕ → ℕ → Bool
unreturned_from t m v e a n = some_below n (λ k. not (eqb (a + k) e) && not (returned t m v (a + k)))

-- of action i, which changes v to e, the arc from the value needed, or the arcs from every value
abbrev pub arcs_by : math.Option ℕ → Task → State → ℕ → ℕ → Bool
arcs_by math.none t m v e = unreturned_from t m v e 0 (count t v)
arcs_by (math.some d) t m v e = unreturned_from t m v e d 1

unfoldable pub lacks_by : Task → State → ℕ → ℕ → ℕ → Bool
lacks_by t m i v e = arcs_by (look (act t i).pre v) t m v e

-- of an action with the move f, the arcs from every value
abbrev pub lacks_any : Task → State → ℕ → Bool
lacks_any t m f = unreturned_from t m (f / 64) (f % 64) 0 (count t (f / 64))

-- v is changed to each of its values by an action that needs nothing but what action j needs
pub record Complete (t : Task) (v j : ℕ) : Type 0 where
  pub below : j < actions t
  pub each : (d : ℕ) → d < count t v → T (returned t (has (act t j).pre) v d)

-- what is kept is complete
pub record Kept (t : Task) (kept : List (Option Allowing)) : Type 0 where
  pub long : length kept ≡ 32
  pub each : (s : ℕ) → s < 32 → IfSome (get_or kept s None) (λ a. Complete t a.variable a.action)

-- what one action leaves for the next: no fact is marked from `own` on, and what is kept is complete
pub record Ready (t : Task) (own : ℕ) (marks : List ℕ) (kept : List (Option Allowing)) : Type 0 where
  pub unmarked : Unmarked t own marks
  pub complete : Kept t kept
