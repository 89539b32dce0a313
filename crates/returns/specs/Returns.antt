-- Returns of arcs, by marks: an action marks each fact that its return may need with a number of its own.
use Rattle.std.specs.Prelude.{◌≡◌, ◌⊎◌, Bool, true, false, ◌&&◌, List, [], ◌∷◌, Option, None, Some, MatchOption, ℕ, ◌+◌, ◌*◌, ◌/◌, ◌<◌, ◌≤◌, T, eqb, length, get_or, set}
use Rattle.planning.specs.Basics.{some_below}
use Rattle.planning.specs.Record.{Fact, Task}
use Rattle.planning.specs.Runs.{State, has, holds, variables, actions, act, black}
use Rattle.planning.specs.Painting.{reduced_effects}
use Rattle.task.specs.Task.{task_in, Loaded}
use Rattle.task.specs.Links.{Changes, Chained}

abbrev pub pick_place : Bool → ℕ → ℕ → ℕ
pick_place true g f = f
pick_place false g f = g

-- where an action with the move f marks its fact g: a fact of the same variable stands for f; each for itself where there is no move
unfoldable pub place : Option ℕ → ℕ → ℕ
place None g = g
place (Some f) g = pick_place (eqb (g / 64) (f / 64)) g f

-- the marks i of the facts of a list
unfoldable pub mark_all : ℕ → Option ℕ → List Fact → List ℕ → List ℕ
mark_all i f [] marks = marks
mark_all i f (g ∷ gs) marks = mark_all i f gs (set marks (place f (64 * g.var + g.val)) i)

-- the facts that are marked i
unfoldable pub marked : ℕ → List ℕ → State
marked i marks u x = eqb (get_or marks (64 * u + x) 0) i

-- there is a place for each fact of the task
abbrev pub Spans : Task → List ℕ → Type 0
Spans t marks = 64 * variables t ≤ length marks

-- there is one for each fact, where an action with the move f marks it
abbrev pub Markable : List ℕ → Option ℕ → List ℕ → Type 0
Markable facts f marks = (k : ℕ) → k < length facts → place f (get_or facts k 0) < length marks

-- action j changes v to d and needs marked facts only
abbrev pub returns_by : Task → State → ℕ → ℕ → ℕ → Bool
returns_by t m v d j = has (reduced_effects (act t j)) v d && holds m (act t j).pre

-- some action does
unfoldable pub returned : Task → State → ℕ → ℕ → Bool
returned t m v d = some_below (actions t) (returns_by t m v d)

-- f is a fact of a black variable of a loaded task with its chains
pub record OnChain (task : List ℕ) (f : ℕ) : Type 0 where
  pub loaded : Loaded task
  pub chained : Chained (task_in task) task
  pub small : f < 4096
  pub on : T (black (task_in task) (f / 64))

-- action j changes v to d; or it is 65,535, which ends a chain
abbrev pub InChain : Task → ℕ → ℕ → ℕ → Type 0
InChain t v d j = (j ≡ 65535) ⊎ ((j < actions t) × Changes t v d j)

-- the first number from a on, below n, that P holds of, if there is one
abbrev pub FirstFrom : (ℕ → Type 0) → ℕ → ℕ → Option ℕ → Type 0
FirstFrom P a n r = MatchOption r ((k : ℕ) → a ≤ k → k < n → P k → ⊥) (λ x. (a ≤ x) × (x < n) × P x × ((k : ℕ) → a ≤ k → k < x → P k → ⊥))

-- an action that changes v to d and needs marked facts only; none if there is none
abbrev pub Finds : Task → State → ℕ → ℕ → Option ℕ → Type 0
Finds t m v d r = MatchOption r (returned t m v d ≡ false) (λ j. (j < actions t) × T (returns_by t m v d j) × (returned t m v d ≡ true))
