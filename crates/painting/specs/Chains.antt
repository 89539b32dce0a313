-- The chains, as one action after the other is put in front.
use Rattle.std.specs.Prelude.{◌≡◌, true, false, List, [], ◌∷◌, Option, None, Some, ℕ, ◌+◌, ◌*◌}
use Rattle.std.proofs.Math.Option.{none}
use Rattle.planning.specs.Record.{Fact}
use Rattle.planning.specs.Runs.{Mode, black}
use Rattle.planning.specs.Painting.{cyclic}
use Rattle.task.specs.Task.{task_in, Loaded}
use Rattle.task.specs.Links.{linked, Chained, Relinked}
use Rattle.sets.specs.Sets.{mode_of}

-- the first fact of the list on a variable of m, as 64 × variable + value
unfoldable pub move_of : Mode → List Fact → Option ℕ
move_of m [] = None
move_of m (f ∷ fs) = elim (m f.var) [ true ↦ Some (64 * f.var + f.val) | false ↦ move_of m fs ]

-- action i, whose move is f, in front of its chain, if it has a move
unfoldable pub linked_move : Option ℕ → ℕ → List ℕ → List ℕ
linked_move None i task = task
linked_move (Some f) i task = linked f i task

-- a loaded task of which 7 passes, so that an action has one move at most; paint are its black variables
pub record Acyclic (task : List ℕ) (paint : ℕ) : Type 0 where
  pub loaded : Loaded task
  pub colours : mode_of paint ≡ black (task_in task)
  pub acyclic : cyclic (task_in task) ≡ none

-- the chains of the task before, and nothing of it is changed
pub record Linked (before after : List ℕ) : Type 0 where
  pub relinked : Relinked before after
  pub chained : Chained (task_in before) after
