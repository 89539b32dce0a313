-- Plain actions: their effects are held, and they need black variables only, so that they apply for real wherever they do red-black.
use Rattle.std.specs.Prelude.{◌≡◌, Bool, true, ◌&&◌, List, [], ◌∷◌, ℕ, zero, suc, ◌+◌, ◌<◌, ◌≤◌, T, get_or}
use Rattle.planning.specs.Record.{Fact, Action, Task}
use Rattle.planning.specs.Runs.{State, Mode, act, black}
use Rattle.planning.specs.Newest.{Values, newer}
use Rattle.sets.specs.Sets.{values_of, further, listed, Known}
use Rattle.counts.specs.declared.Counts.{Counts}
use Rattle.counts.specs.Counting.{Onward}
use Rattle.counts.specs.declared.Glided.{Glided}

-- each fact is of a black variable
unfoldable pub all_black : Mode → List Fact → Bool
all_black m [] = true
all_black m (f ∷ fs) = m f.var && all_black m fs

-- a set of plain actions, where s are the facts held
pub record Plain (t : Task) (s : State) (set : List ℕ) : Type 0 where
  pub known : Known t s set
  pub black' : (i : ℕ) → i < 1024 → T (listed set i) → T (all_black (black t) (act t i).pre)

-- the counts of a list with the action a behind it, which applies for real
unfoldable pub passed_by : Action → Counts → Counts
passed_by a c = record { steps = c.steps + 1; runs = further true c.runs c.steps; cost = c.cost + a.cost }

-- m steps of the plan by actions of the set, from newest values f and counts c to g and r
unfoldable pub Glide : Task → List ℕ → List ℕ → ℕ → Values → Counts → Values → Counts → Type 0
Glide t set plan zero f c g r = (g ≡ f) × (r ≡ c)
Glide t set plan (suc m) f c g r = let i = get_or plan c.steps 0 in T (listed set i) × Glide t set plan m (newer (act t i) f) (passed_by (act t i) c) g r

-- some such steps, up to place `to` at most
pub record Gliding (t : Task) (set plan : List ℕ) (to : ℕ) (f : Values) (c : Counts) (g : Values) (r : Counts) : Type 0 where
  pub count : ℕ
  pub steps : r.steps ≡ c.steps + count
  pub within : r.steps ≤ to
  pub way : Glide t set plan count f c g r

-- the next step, with the counts `first` behind it, and such steps
pub record Glides (t : Task) (set plan : List ℕ) (to : ℕ) (f : Values) (c : Counts) (r : Glided) : Type 0 where
  pub first : Counts
  pub onward : Onward (act t (get_or plan c.steps 0)) f c first
  pub more : Gliding t set plan to (newer (act t (get_or plan c.steps 0)) f) first (values_of r.newest.values) r.counts
