-- The steps of a stage, and its searches, over the facts held ever: those of R and B (laws/proofs/Known.antt).
use Rattle.std.specs.Prelude.{◌≡◌, true, false, List, [], ◌∷◌, ◌++◌, ℕ, ◌/◌, ◌%◌, ◌<◌, length, get_or}
use Rattle.planning.specs.Record.{Fact, Task}
use Rattle.planning.specs.Runs.{State, variables, count, act, black, goals}
use Rattle.planning.specs.Repair.{order, fill, value, black_met, fill_searches}
use Rattle.task.specs.Task.{facts_of, task_in}
use Rattle.sets.specs.Sets.{sets_of, values_of, red_black_of}
use Rattle.paths.specs.Paths.{paths_of}
use Rattle.asking.specs.Asking.{Fitting}

-- r is the fact, 64 × variable + value, that v has in the state s
pub record Present (t : Task) (s : State) (v r : ℕ) : Type 0 where
  pub of : r / 64 ≡ v
  pub is : r % 64 ≡ value (count t) s v
  pub below : r % 64 < count t v

-- facts of the task in a list of numbers
pub record Wanted (t : Task) (facts : List ℕ) : Type 0 where
  pub inside : (k : ℕ) → k < length facts → get_or facts k 0 / 64 < variables t
  pub fitting : Fitting t (facts_of facts)

-- the passes of the variables vs over the list l
abbrev pub fill_from : Task → State → State → List ℕ → List ℕ → List Fact → List ℕ
fill_from t K s vs l w = fill (act t) (paths_of t K) (value (count t) s) vs l w

-- the passes of all black variables
unfoldable pub filled : Task → State → State → List Fact → List ℕ
filled t K s w = fill_from t K s (order t) [] w

-- the moves to insert for the wanted facts w
unfoldable pub moved : Task → State → State → List Fact → List ℕ
moved t K s w = elim (black_met (black t) s w) [ true ↦ [] | false ↦ filled t K s w ]

-- the moves for action i, and the action
abbrev pub steps_for : Task → State → State → ℕ → List ℕ
steps_for t K s i = moved t K s (act t i).pre ++ (i ∷ [])

-- the moves for the goals, at the end
abbrev pub last_moves : Task → State → State → List ℕ
last_moves t K s = moved t K s (goals t)

-- the steps of the next stage, where the list l is left of the relaxed plan
unfoldable pub stage_of : Task → State → State → List ℕ → List ℕ
stage_of t K s [] = last_moves t K s
stage_of t K s (i ∷ l) = steps_for t K s i

-- the searches for these
abbrev pub searches_over : Task → State → State → List ℕ → List ℕ → List Fact → ℕ
searches_over t K s vs l w = fill_searches (act t) (paths_of t K) (value (count t) s) vs l w

unfoldable pub filled_searches : Task → State → State → List Fact → ℕ
filled_searches t K s w = searches_over t K s (order t) [] w

unfoldable pub moved_searches : Task → State → State → List Fact → ℕ
moved_searches t K s w = elim (black_met (black t) s w) [ true ↦ 0 | false ↦ filled_searches t K s w ]

unfoldable pub stage_searches : Task → State → State → List ℕ → ℕ
stage_searches t K s [] = moved_searches t K s (goals t)
stage_searches t K s (i ∷ l) = moved_searches t K s (act t i).pre

-- the same by the lists that the code has: the task, the facts held ever, the newest values, from which the state is shown
abbrev pub shown_by : List ℕ → List ℕ → List ℕ → State
shown_by task ever newest = red_black_of (black (task_in task)) (sets_of ever) (values_of newest)

abbrev pub filled_in : List ℕ → List ℕ → List ℕ → List ℕ → List ℕ
filled_in task ever newest wanted = filled (task_in task) (sets_of ever) (shown_by task ever newest) (facts_of wanted)

abbrev pub moved_in : List ℕ → List ℕ → List ℕ → List ℕ → List ℕ
moved_in task ever newest wanted = moved (task_in task) (sets_of ever) (shown_by task ever newest) (facts_of wanted)

abbrev pub steps_in : List ℕ → List ℕ → List ℕ → ℕ → List ℕ
steps_in task ever newest i = steps_for (task_in task) (sets_of ever) (shown_by task ever newest) i

abbrev pub last_in : List ℕ → List ℕ → List ℕ → List ℕ
last_in task ever newest = last_moves (task_in task) (sets_of ever) (shown_by task ever newest)

abbrev pub stage_in : List ℕ → List ℕ → List ℕ → List ℕ → List ℕ
stage_in task ever newest left = stage_of (task_in task) (sets_of ever) (shown_by task ever newest) left

abbrev pub filled_searches_in : List ℕ → List ℕ → List ℕ → List ℕ → ℕ
filled_searches_in task ever newest wanted = filled_searches (task_in task) (sets_of ever) (shown_by task ever newest) (facts_of wanted)

abbrev pub moved_searches_in : List ℕ → List ℕ → List ℕ → List ℕ → ℕ
moved_searches_in task ever newest wanted = moved_searches (task_in task) (sets_of ever) (shown_by task ever newest) (facts_of wanted)

abbrev pub steps_searches_in : List ℕ → List ℕ → List ℕ → ℕ → ℕ
steps_searches_in task ever newest i = moved_searches (task_in task) (sets_of ever) (shown_by task ever newest) (act (task_in task) i).pre

abbrev pub last_searches_in : List ℕ → List ℕ → List ℕ → ℕ
last_searches_in task ever newest = moved_searches (task_in task) (sets_of ever) (shown_by task ever newest) (goals (task_in task))

abbrev pub stage_searches_in : List ℕ → List ℕ → List ℕ → List ℕ → ℕ
stage_searches_in task ever newest left = stage_searches (task_in task) (sets_of ever) (shown_by task ever newest) left
