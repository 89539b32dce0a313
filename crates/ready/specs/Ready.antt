-- Sets of ready ranks, their least member, and what putting a rank in and taking one out comes to.
use Rattle.std.specs.Prelude.{◌≡◌, Bool, not, ◌&&◌, ◌||◌, List, ℕ, ◌+◌, ◌/◌, ◌%◌, ◌<◌, T, eqb, length, get_or, Option, Some, None}
use Rattle.sets.specs.Sets.{in_set, sets_of}

-- A set of numbers below 1,024 is 17 entries: 16 sets of 64 behind one that says which of them have a member. Number i is in it:
unfoldable pub member : List ℕ → ℕ → Bool
member ready i = sets_of ready (i / 64 + 1) (i % 64)

-- the list is such a set, and its first entry says so of the others
pub record Ready (ready : List ℕ) : Type 0 where
  pub long : length ready ≡ 17
  pub filled : (w : ℕ) → in_set (get_or ready 0 0) w ≡ not (eqb (get_or ready (w + 1) 0) 0)

-- t is the least member of a set of k
pub record LowestIn (m k t : ℕ) : Type 0 where
  pub below : t < k
  pub is : T (in_set m t)
  pub least : (x : ℕ) → x < t → T (in_set m x) → ⊥

-- r is the least member
pub record Least (ready : List ℕ) (r : ℕ) : Type 0 where
  pub few : r < 1024
  pub is : T (member ready r)
  pub least : (j : ℕ) → j < r → T (member ready j) → ⊥

-- the least member; without one there is no member
abbrev pub Lowest : List ℕ → Option ℕ → Type 0
Lowest ready None = (j : ℕ) → j < 1024 → T (member ready j) → ⊥
Lowest ready (Some r) = Least ready r

-- a set with i, and without i
pub record With (ready : List ℕ) (i : ℕ) (new : List ℕ) : Type 0 where
  pub sound : Ready new
  pub are : (j : ℕ) → member new j ≡ (eqb j i || member ready j)

pub record Without (ready : List ℕ) (i : ℕ) (new : List ℕ) : Type 0 where
  pub sound : Ready new
  pub are : (j : ℕ) → member new j ≡ (member ready j && not (eqb j i))
