-- The rows of the graph.
use Rattle.std.specs.Prelude.{◌≡◌, Bool, not, ◌||◌, ◌&&◌, List, ℕ, eqb, length}
use Rattle.planning.specs.Record.{Action}
use Rattle.planning.specs.Runs.{Mode, touches}
use Rattle.planning.specs.Painting.{reduced_effects}
use Rattle.sets.specs.Sets.{sets_of}

-- 64 rows, and the graph that they state
pub record Rows (rows : List ℕ) (s : ℕ → ℕ → Bool) : Type 0 where
  pub long : length rows ≡ 64
  pub states : sets_of rows ≡ s

-- the arcs of s, and those that an action gives between variables of m
unfoldable pub with_action : Mode → Action → (ℕ → ℕ → Bool) → ℕ → ℕ → Bool
with_action m a s u v = s u v || ((m u && m v) && (not (eqb u v) && (touches (reduced_effects a) v && (touches a.pre u || touches (reduced_effects a) u))))
