-- What a pass is handed, and the paths that it inserts.
use Rattle.std.specs.Prelude.{Bool, true, false, List, [], ◌∷◌, ℕ, ◌/◌, ◌%◌}
use Rattle.std.proofs.Math.Option.{none, some}
use Rattle.planning.specs.Record.{Fact, Task}
use Rattle.planning.specs.Runs.{State, look, act}
use Rattle.planning.specs.Repair.{pass, pass_searches}
use Rattle.task.specs.Task.{facts_of, task_in}
use Rattle.sets.specs.Sets.{sets_of}
use Rattle.paths.specs.Paths.{paths_of}

-- the pass for v, whose value is c, over the list l, where the facts K are known and the facts w are wanted
abbrev pub pass_of : Task → State → ℕ → ℕ → List ℕ → List Fact → List ℕ
pass_of t K v c l w = pass (act t) (paths_of t K v) v c l w

-- the pass for the variable of fact f, which it has now
abbrev pub served : Task → State → ℕ → List ℕ → List Fact → List ℕ
served t K f l w = pass_of t K (f / 64) (f % 64) l w

-- no entry of the list needs a value of v
unfoldable pub unasked : Task → ℕ → List ℕ → Bool
unasked t v [] = true
unasked t v (i ∷ l) = elim (look (act t i).pre v) [ none ↦ unasked t v l | some d ↦ false ]

-- that pass, and its searches, by the lists that the code has
abbrev pub served_in : List ℕ → List ℕ → ℕ → List ℕ → List ℕ → List ℕ
served_in task ever f l want = served (task_in task) (sets_of ever) f l (facts_of want)

abbrev pub served_searches_in : List ℕ → ℕ → List ℕ → List ℕ → ℕ
served_searches_in task f l want = pass_searches (act (task_in task)) (f / 64) l (facts_of want)
