-- Repair (6).
use Rattle.std.specs.Prelude.{ℕ, zero, suc, pred, ◌+◌, Bool, true, false, not, ◌&&◌, ◌||◌, List, [], ◌∷◌, ◌++◌, eqb, ltb, length, get_or, drop, replicate}
use Rattle.std.proofs.Math.Option.{Option, none, some}
use Rattle.planning.specs.Basics.{first, some_below}
use Rattle.planning.specs.Record.{Fact, Action, Task}
use Rattle.planning.specs.Runs.{State, Mode, look, holds, step, run, cost_by, variables, actions, count, black, act, initial, goals}
use Rattle.planning.specs.Painting.{arc_from, target, or_zero, black_arc}

-- 6.3: R and B together, from the present state and the facts held ever
unfoldable pub known : Mode → State → State → State
known m now ever v d = (not (m v) && now v d) || (m v && ever v d)

-- 6.3: the facts held ever, with those of the present state
unfoldable pub union : State → State → State
union ever now v d = ever v d || now v d

-- 6.3: the facts held ever, after a list run from the state s
unfoldable pub ever_after : (ℕ → Action) → Mode → List ℕ → State → State → State
ever_after act m [] s ever = ever
ever_after act m (i ∷ l) s ever = ever_after act m l (step m (act i) s) (union ever (step m (act i) s))

-- 6.3 and 6.7, K being R and B: action i gives a usable arc of v from c
unfoldable pub usable_arc : (ℕ → Action) → State → ℕ → ℕ → ℕ → Bool
usable_arc act K v c i = holds K (act i).pre && arc_from act v c i

-- 6.7: the list is a path of v from c to d
unfoldable pub is_path : (ℕ → Action) → ℕ → State → ℕ → ℕ → ℕ → List ℕ → Bool
is_path act A K v c d [] = eqb c d
is_path act A K v c d (i ∷ p) = (ltb i A && usable_arc act K v c i) && is_path act A K v (target act v i) d p

-- 6.7: one list of numbers before another, compared first to last; a path better than another: by cost, then moves, then actions
unfoldable pub smaller : List ℕ → List ℕ → Bool
smaller [] [] = false
smaller [] (y ∷ q) = true
smaller (x ∷ p) [] = false
smaller (x ∷ p) (y ∷ q) = ltb x y || (eqb x y && smaller p q)

unfoldable pub better : (ℕ → Action) → List ℕ → List ℕ → Bool
better act p q = smaller (cost_by act p ∷ length p ∷ p) (cost_by act q ∷ length q ∷ q)

-- 6.7: the better of two paths, of which each may be missing; the best of n
unfoldable pub choose : (ℕ → Action) → Option (List ℕ) → Option (List ℕ) → Option (List ℕ)
choose act none q = q
choose act (some p) none = some p
choose act (some p) (some q) = elim (better act q p) [ true ↦ some q | false ↦ some p ]

unfoldable pub best_below : (ℕ → Action) → ℕ → (ℕ → Option (List ℕ)) → Option (List ℕ)
best_below act zero f = none
best_below act (suc n) f = choose act (best_below act n f) (f n)

-- 6.7: a path behind action i; the best path from c to d of at most k moves: the empty one if they are the same, else the best of those
-- by an action and the best from its target on
unfoldable pub behind : ℕ → Option (List ℕ) → Option (List ℕ)
behind i none = none
behind i (some p) = some (i ∷ p)

unfoldable pub best_in : (ℕ → Action) → ℕ → State → ℕ → ℕ → ℕ → ℕ → Option (List ℕ)
best_in act A K v zero c d = elim (eqb c d) [ true ↦ some [] | false ↦ none ]
best_in act A K v (suc k) c d = elim (eqb c d) [
  | true ↦ some []
  | false ↦ best_below act A (λ i. elim (usable_arc act K v c i) [ true ↦ behind i (best_in act A K v k (target act v i) d) | false ↦ none ])
]

-- 6.7: the path from c to d. v has n values, and the best of all paths has fewer moves. Where there is no path, the empty list; a repair
-- after 7, 8 and 9 never asks for one that does not exist.
unfoldable pub best_path : (ℕ → Action) → ℕ → State → ℕ → ℕ → ℕ → ℕ → List ℕ
best_path act A K v n c d = elim (best_in act A K v (pred n) c d) [ none ↦ [] | some p ↦ p ]

-- 6.6: the path from c to the value asked for, if one is; the value that v then has
unfoldable pub toward : (ℕ → ℕ → List ℕ) → ℕ → Option ℕ → List ℕ
toward path c none = []
toward path c (some d) = path c d

unfoldable pub after : ℕ → Option ℕ → ℕ
after c none = c
after c (some d) = d

-- 6.6: the pass of v over a list of moves, v being at c and w the wanted facts. No entry of the list changes v, since 7 passed.
unfoldable pub pass : (ℕ → Action) → (ℕ → ℕ → List ℕ) → ℕ → ℕ → List ℕ → List Fact → List ℕ
pass act path v c [] w = toward path c (look w v)
pass act path v c (i ∷ l) w = toward path c (look (act i).pre v) ++ (i ∷ pass act path v (after c (look (act i).pre v)) l w)

-- 6.4: a pass for each variable of vs, in order
unfoldable pub fill : (ℕ → Action) → (ℕ → ℕ → ℕ → List ℕ) → (ℕ → ℕ) → List ℕ → List ℕ → List Fact → List ℕ
fill act path value [] l w = l
fill act path value (v ∷ vs) l w = fill act path value vs (pass act (path v) v (value v) l w) w

-- 6.5: v is black, not taken, and has no arc to one not taken; the order; that of a task
unfoldable pub ready : ℕ → (ℕ → ℕ → Bool) → Mode → (ℕ → Bool) → ℕ → Bool
ready n adj m taken v = (m v && not (taken v)) && not (some_below n (λ u. not (taken u) && adj v u))

unfoldable pub clients_first : ℕ → (ℕ → ℕ → Bool) → Mode → ℕ → (ℕ → Bool) → List ℕ
clients_first n adj m zero taken = []
clients_first n adj m (suc k) taken =
    elim (first n (ready n adj m taken)) [ none ↦ [] | some v ↦ v ∷ clients_first n adj m k (λ u. eqb u v || taken u) ]

unfoldable pub order : Task → List ℕ
order t = clients_first (variables t) (black_arc t) (black t) (variables t) (λ _. false)

-- 6.6: the present value of a black variable
unfoldable pub value : (ℕ → ℕ) → State → ℕ → ℕ
value count s v = or_zero (first (count v) (s v))

-- 6.2: the state holds the black facts of the list
unfoldable pub black_met : Mode → State → List Fact → Bool
black_met m s [] = true
black_met m s (f ∷ fs) = (not (m f.var) || s f.var f.val) && black_met m s fs

-- 6.2 and 6.4: the moves inserted for the preconditions or goals w, none if the black ones are held. Passes are made for black
-- variables only, so that red facts of w are not looked at.
unfoldable pub moves : (ℕ → Action) → ℕ → Mode → (ℕ → ℕ) → List ℕ → State → State → List Fact → List ℕ
moves act A m count order s ever w =
    elim (black_met m s w) [ true ↦ [] | false ↦ fill act (λ v. best_path act A (known m s ever) v (count v)) (value count s) order [] w ]

-- 6.9: a path is asked for where a value is, also an empty one; those of the pass of v over a list; of a pass for each variable of vs; of
-- the moves inserted for w, none if its black facts are held
unfoldable pub asked_for : Option ℕ → ℕ
asked_for none = 0
asked_for (some d) = 1

unfoldable pub pass_searches : (ℕ → Action) → ℕ → List ℕ → List Fact → ℕ
pass_searches act v [] w = asked_for (look w v)
pass_searches act v (i ∷ l) w = asked_for (look (act i).pre v) + pass_searches act v l w

unfoldable pub fill_searches : (ℕ → Action) → (ℕ → ℕ → ℕ → List ℕ) → (ℕ → ℕ) → List ℕ → List ℕ → List Fact → ℕ
fill_searches act path value [] l w = 0
fill_searches act path value (v ∷ vs) l w = pass_searches act v l w + fill_searches act path value vs (pass act (path v) v (value v) l w) w

unfoldable pub move_searches : (ℕ → Action) → ℕ → Mode → (ℕ → ℕ) → List ℕ → State → State → List Fact → ℕ
move_searches act A m count order s ever w =
    elim (black_met m s w) [ true ↦ 0 | false ↦ fill_searches act (λ v. best_path act A (known m s ever) v (count v)) (value count s) order [] w ]

-- 6.2: a stage of the walk: the moves inserted, and behind them the action that they are for, none at the end; 6.9: the searches for the
-- moves; the steps of a stage, and steps and searches of a list of stages
pub record Stage : Type 0 where
  pub inserted : List ℕ
  pub entry : List ℕ
  pub searched : ℕ

unfoldable pub stage_steps : Stage → List ℕ
stage_steps x = x.inserted ++ x.entry

unfoldable pub all_steps : List Stage → List ℕ
all_steps [] = []
all_steps (x ∷ xs) = stage_steps x ++ all_steps xs

unfoldable pub all_searches : List Stage → ℕ
all_searches [] = 0
all_searches (x ∷ xs) = x.searched + all_searches xs

-- 6.10: the marks of a stage's steps, 1 for a move inserted and 0 for the action; of a list of stages
unfoldable pub stage_marks : Stage → List ℕ
stage_marks x = replicate (length x.inserted) 1 ++ replicate (length x.entry) 0

unfoldable pub all_marks : List Stage → List ℕ
all_marks [] = []
all_marks (x ∷ xs) = stage_marks x ++ all_marks xs

-- 6.2: the stage for an action; for the goals
abbrev pub stage_for : (ℕ → Action) → ℕ → Mode → (ℕ → ℕ) → List ℕ → State → State → ℕ → Stage
stage_for act A m count order s ever i =
    record { inserted = moves act A m count order s ever (act i).pre; entry = i ∷ []; searched = move_searches act A m count order s ever (act i).pre }

abbrev pub last_stage : (ℕ → Action) → ℕ → Mode → (ℕ → ℕ) → List ℕ → State → State → List Fact → Stage
last_stage act A m count order s ever goal =
    record { inserted = moves act A m count order s ever goal; entry = []; searched = move_searches act A m count order s ever goal }

-- 6.2: the walk along the rest l of the relaxed plan, from the state s; the repair of a relaxed plan l
unfoldable pub stages_from : (ℕ → Action) → ℕ → Mode → (ℕ → ℕ) → List ℕ → List Fact → List ℕ → State → State → List Stage
stages_from act A m count order goal [] s ever = last_stage act A m count order s ever goal ∷ []
stages_from act A m count order goal (i ∷ l) s ever =
    let x = stage_for act A m count order s ever i in
    x ∷ stages_from act A m count order goal l (run act m (stage_steps x) s) (ever_after act m (stage_steps x) s ever)

unfoldable pub stages : Task → List ℕ → List Stage
stages t l = stages_from (act t) (actions t) (black t) (count t) (order t) (goals t) l (initial t) (initial t)

unfoldable pub repaired : Task → List ℕ → List ℕ
repaired t l = all_steps (stages t l)

-- 6.9: the path searches of a repair
unfoldable pub searches : Task → List ℕ → ℕ
searches t l = all_searches (stages t l)

-- 6.10: the marks of a repair; the steps of the list l without those that ms marks, a missing mark being 0
unfoldable pub marks : Task → List ℕ → List ℕ
marks t l = all_marks (stages t l)

unfoldable pub unmarked : List ℕ → List ℕ → List ℕ
unmarked [] ms = []
unmarked (i ∷ l) ms = elim (eqb (get_or ms 0 0) 0) [ true ↦ i ∷ unmarked l (drop 1 ms) | false ↦ unmarked l (drop 1 ms) ]
