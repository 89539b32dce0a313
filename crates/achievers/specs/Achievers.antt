-- First achievers in a list of 4,096 numbers, one for each fact, and the run by which they are.
use Rattle.std.specs.Prelude.{◌≡◌, List, [], ℕ, ◌/◌, ◌%◌, ◌<◌, ◌≤◌, length, get_or, take}
use Rattle.std.proofs.Math.Option.{Option, none, some}
use Rattle.planning.specs.Record.{Task}
use Rattle.planning.specs.Runs.{State, has, act, initial}
use Rattle.planning.specs.Relaxed.{forward_run, first_achiever}
use Rattle.task.specs.Task.{task_in, Loaded}
use Rattle.sets.specs.Sets.{choose}

-- i stands in the place of each of the facts f, and what stands in other places is kept
pub record Noted (f : State) (i : ℕ) (before after : List ℕ) : Type 0 where
  pub long : length after ≡ 4096
  pub are : (k : ℕ) → k < 4096 → get_or after k 0 ≡ choose (f (k / 64) (k % 64)) i (get_or before k 0)

-- the number that stands for a first achiever: 65,535 for none
unfoldable pub achiever : Option ℕ → ℕ
achiever none = 65535
achiever (some i) = i

-- the first achievers of the 4,096 facts by the list l, run from the state s
unfoldable pub AchievedFrom : State → Task → List ℕ → List ℕ → Type 0
AchievedFrom s t l first = (f : ℕ) → f < 4096 → get_or first f 0 ≡ achiever (first_achiever (act t) l s (f / 64) (f % 64))

-- those of the task; and from where nothing is held, which are the first actions that set each fact
abbrev pub Achieved : Task → List ℕ → List ℕ → Type 0
Achieved t = AchievedFrom (initial t) t

abbrev pub Setters : Task → List ℕ → List ℕ → Type 0
Setters = AchievedFrom (has [])

-- the run is at hand
pub record Replay (task run : List ℕ) (n : ℕ) : Type 0 where
  pub loaded : Loaded task
  pub list : take n run ≡ forward_run (task_in task)
  pub long : length run ≡ 1024
  pub few : n ≤ 1024
