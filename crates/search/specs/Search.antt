-- Labels: for each value the key of a path to the wanted one, cost × 64 + moves, times 65,536, and the path's first action and its target.
use Rattle.std.specs.Prelude.{◌≡◌, ◌⊎◌, ◌≢◌, Bool, ◌&&◌, List, ℕ, ◌+◌, ◌*◌, ◌/◌, ◌<◌, ◌≤◌, T, length, get_or}
use Rattle.planning.specs.Record.{Task}
use Rattle.planning.specs.Runs.{State, look, holds, actions, count, act}
use Rattle.planning.specs.Painting.{target, fits}
use Rattle.planning.specs.Repair.{usable_arc}
use Rattle.sets.specs.Sets.{in_set}

-- action i is usable and gives an arc of v from c, or stays at c
unfoldable pub source_of : Task → State → ℕ → ℕ → ℕ → Bool
source_of t K v i c = holds K (act t i).pre && fits (look (act t i).pre v) c

-- where no path was found; what a move adds to a key at most, 64 × 65,535 + 1; a bound on keys, 64 such moves
abbrev pub unreached : ℕ
unreached = 18446744073709551615

abbrev pub dearest : ℕ
dearest = 4194241

abbrev pub highest : ℕ
highest = 268431424

-- the label by action i to the value x of this key
unfoldable pub through : ℕ → ℕ → ℕ → ℕ → ℕ
through key cost i x = (key + 64 * cost + 1) * 65536 + (64 * i + x)

-- m is the label of c by a usable arc into x, whose key is given
abbrev pub Into : Task → State → ℕ → ℕ → ℕ → ℕ → ℕ → Type 0
Into t K v x key c m = (i : ℕ) × (i < actions t) × T (usable_arc (act t) K v c i) × (target (act t) v i ≡ x) × (m ≡ through key (act t i).cost i x)

-- Values of the set rest have the least of their old label and those that D says, the others their old one; the set grow has those of
-- the set front and the values of rest for which D says one.
pub record Lowered (D : ℕ → ℕ → Type 0) (rest : ℕ) (old new : List ℕ) (front grow : ℕ) : Type 0 where
  pub long : length new ≡ 64
  pub below : (c : ℕ) → c < 64 → get_or new c 0 ≤ get_or old c 0
  pub least : (c m : ℕ) → c < 64 → T (in_set rest c) → D c m → get_or new c 0 ≤ m
  pub found : (c : ℕ) → c < 64 → (get_or new c 0 ≡ get_or old c 0) ⊎ (T (in_set rest c) × D c (get_or new c 0))
  pub kept : (c : ℕ) → T (in_set front c) → T (in_set grow c)
  pub grows : (c m : ℕ) → c < 64 → T (in_set rest c) → D c m → T (in_set grow c)
  pub grown : (c : ℕ) → c < 64 → T (in_set grow c) → T (in_set front c) ⊎ (T (in_set rest c) × ((m : ℕ) × D c m))

-- c is settled: not in the set rest of open values
abbrev pub Done : ℕ → ℕ → Type 0
Done rest c = T (in_set rest c) → ⊥

-- The labels towards d of a search that may have stopped: the values of the set rest are open, the others settled, d among them. The label of d
-- is that of the empty path; any other settled one is the least by a usable arc into a settled value that has one, or there is none; keys are
-- bounded. An arc from an open value into a settled one gives no less than any settled label. Where a value is open every settled one has been
-- reached.
pub record Settled (t : Task) (K : State) (v d : ℕ) (labels : List ℕ) (rest : ℕ) : Type 0 where
  pub goal : get_or labels d 0 ≡ d
  pub goal_done : Done rest d
  pub small : (c : ℕ) → c < count t v → get_or labels c 0 < unreached → get_or labels c 0 / 65536 ≤ highest
  pub least : (c x m : ℕ) → c < count t v → c ≢ d → Done rest c → Done rest x → get_or labels x 0 < unreached → Into t K v x (get_or labels x 0 / 65536) c m → get_or labels c 0 ≤ m
  pub found : (c : ℕ) → c < count t v → c ≢ d → Done rest c
      → (get_or labels c 0 ≡ unreached) ⊎ ((x : ℕ) × Done rest x × (get_or labels x 0 < unreached) × Into t K v x (get_or labels x 0 / 65536) c (get_or labels c 0))
  pub beyond : (c x m s : ℕ) → T (in_set rest c) → Done rest x → get_or labels x 0 < unreached → Into t K v x (get_or labels x 0 / 65536) c m → s < count t v → Done rest s → get_or labels s 0 ≤ m
  pub reached : (c s : ℕ) → T (in_set rest c) → s < count t v → Done rest s → get_or labels s 0 < unreached
