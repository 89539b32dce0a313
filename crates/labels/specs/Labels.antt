-- Members of a set, and labels of values.
use Rattle.std.specs.Prelude.{◌≡◌, Bool, true, false, not, ◌&&◌, List, ℕ, ◌<◌, ◌≤◌, min, T, eqb, get_or, Option, Some, None}
use Rattle.sets.specs.Sets.{in_set}
use Rattle.labels.specs.declared.Members.{Members}

-- the least member came out of a set: what is left is the set without it; or there is none
abbrev pub Next : Members → Option ℕ → Members → Type 0
Next s None r = s.rest ≡ 0
Next s (Some c) r = (c < 64) × T (in_set s.rest c) × ((x : ℕ) → in_set r.rest x ≡ (in_set s.rest x && not (eqb x c))) × ((x : ℕ) → x < c → T (in_set s.rest x) → ⊥)

-- the lesser of two numbers where the test holds
unfoldable pub lower : Bool → ℕ → ℕ → ℕ
lower true l x = min l x
lower false l x = x

-- a member of the set with the least label
pub record Least (labels : List ℕ) (front r : ℕ) : Type 0 where
  pub within : r < 64
  pub member : T (in_set front r)
  pub least : (c : ℕ) → c < 64 → T (in_set front c) → get_or labels r 0 ≤ get_or labels c 0

-- that member, if there is any
abbrev pub Nearest : List ℕ → ℕ → Option ℕ → Type 0
Nearest labels front None = (c : ℕ) → c < 64 → T (in_set front c) → ⊥
Nearest labels front (Some r) = Least labels front r
