-- Leads: the first action of the best path to one value and where it leads, from each value; kept in a memo.
use Rattle.std.specs.Prelude.{◌≡◌, ◌≢◌, Bool, true, false, not, ◌&&◌, ◌||◌, List, [], ◌∷◌, ℕ, ◌+◌, ◌*◌, ◌%◌, ◌<◌, T, eqb, ltb, length, get_or}
use Rattle.planning.specs.Basics.{some_below}
use Rattle.planning.specs.Record.{Fact, Action, Task}
use Rattle.planning.specs.Runs.{State, touches, variables, actions, count, act, black}
use Rattle.planning.specs.Painting.{target}
use Rattle.planning.specs.Repair.{best_path}
use Rattle.task.specs.Task.{task_in}
use Rattle.sets.specs.Sets.{in_set, sets_of}
use Rattle.search.specs.Search.{unreached}
use Rattle.search.specs.declared.Arcs.{Arcs}

-- the best paths of v along usable arcs
abbrev pub paths_of : Task → State → ℕ → ℕ → ℕ → List ℕ
paths_of t K v = best_path (act t) (actions t) K v (count t v)

-- the lead of a path of v from c: 64 × its first action and the value that this one changes v to, or c if the path is empty
unfoldable pub lead_of : (ℕ → Action) → ℕ → ℕ → List ℕ → ℕ
lead_of act v c [] = c
lead_of act v c (i ∷ p) = 64 * i + target act v i

-- that of the best path from c to d
abbrev pub lead_to : Task → State → ℕ → ℕ → ℕ → ℕ
lead_to t K v d c = lead_of (act t) v c (paths_of t K v c d)

-- what stands for the lead from c where it is not known: action 1 from c to c, which no path has
abbrev pub unknown : ℕ → ℕ
unknown c = 64 + c

-- the lead that a label of c has: unknown where c is open, c where no path was found
unfoldable pub lead_by : Bool → ℕ → ℕ → ℕ
lead_by unsettled l c = elim unsettled [ true ↦ unknown c | false ↦ elim (eqb l unreached) [ true ↦ c | false ↦ l % 65536 ] ]

-- leads to d, each unknown or the best path's; and where one is known, so is that of the value to which it leads
abbrev pub Leads : Task → State → ℕ → ℕ → (ℕ → ℕ) → Type 0
Leads t K v d lead = (c : ℕ) → c < count t v → lead c ≢ unknown c → (lead c ≡ lead_to t K v d c) × (lead (lead_to t K v d c % 64) ≢ unknown (lead_to t K v d c % 64))

-- no variable has more than 15 values
unfoldable pub few_values : Task → Bool
few_values t = not (some_below (variables t) (λ v. ltb 15 (count t v)))

-- the memo: a mark for each of 64 slots, and behind them for each value that a variable may have 64 leads, one a slot; its length
unfoldable pub memo_for : Task → ℕ
memo_for t = elim (few_values t) [ true ↦ 1024 | false ↦ 4160 ]

-- the slot of the variable v and the value d: no two values of a variable have the same; and the leads in a slot
unfoldable pub slot : ℕ → ℕ → ℕ
slot v d = (39 * v + d) % 64

abbrev pub lead_in : List ℕ → ℕ → ℕ → ℕ
lead_in memo k c = get_or memo (64 * (c + 1) + k) 0

-- where v + 1 is the mark of a slot, the leads in it are those of the black variable v to the value whose slot it is
pub record Memo (t : Task) (K : State) (memo : List ℕ) : Type 0 where
  pub long : length memo ≡ memo_for t
  pub leads : (v d : ℕ) → T (black t v) → d < 64 → get_or memo (slot v d) 0 ≡ v + 1 → Leads t K v d (lead_in memo (slot v d))

-- the same of the arcs that are usable
abbrev pub MemoOf : Arcs → List ℕ → Type 0
MemoOf arcs memo = Memo (task_in arcs.task.now) (sets_of arcs.ever.now) memo

-- the lead of v from c to d is known
abbrev pub Leading : List ℕ → ℕ → ℕ → ℕ → Type 0
Leading memo v c d = (get_or memo (slot v d) 0 ≡ v + 1) × (lead_in memo (slot v d) c ≢ unknown c)

-- the facts set a black variable
unfoldable pub any_black : Task → List Fact → Bool
any_black t [] = false
any_black t (f ∷ fs) = black t f.var || any_black t fs

-- the set has every variable that an action below k which sets a black variable needs
abbrev pub Covers : Task → ℕ → ℕ → Type 0
Covers t k m = (i v : ℕ) → i < k → T (any_black t (act t i).eff && touches (act t i).pre v) → T (in_set m v)
