-- What the numbers of a loaded task say: the laws behind its readers.
use mathlib.Core.Path.{◌≡◌, refl, sym, ap, ◌∙◌}
use mathlib.Core.List.{List}
use mathlib.Core.Option.{none, some}
use Prim.Native.Nat.{ℕ, zero, suc, ◌+◌, ◌-◌, ◌/◌, ◌%◌, ◌<◌, ◌≤◌}
use native.Mathlib.Omega.{arith}
use lib.Dec.{eqb}
use lib.ListN.{length, get_or, take}
use lib.Seq.{length-slice, get_or-take, get_or-drop}
use Rattle.planning.specs.Record.{Variable, goal_of}
use Rattle.planning.specs.Runs.{no_variable, no_action, variables, actions, variable, act, count, black}
use Rattle.task.specs.Task.{cell, variable_in, action_in, each, task_in, order_from}
use Rattle.task.specs.Links.{order_in, Prepared}

module _ {A : Type 0} (f : ℕ → A) where
  pub each_length : (a n : ℕ) → length (each f a n) ≡ n
  unfolding each
  each_length a zero = refl
  each_length a (suc n) = ap suc (each_length (suc a) n)

  pub each_get : (a n k : ℕ) (d : A) → k < n → get_or (each f a n) k d ≡ f (a + k)
  unfolding each
  each_get a zero k d h = absurd (omega arith)
  each_get a (suc n) zero d h = ap f (omega arith)
  each_get a (suc n) (suc k) d h = each_get (suc a) n k d (omega arith) ∙ ap f (omega arith)

module _ (task : List ℕ) where
  pub task_in_variables : variables (task_in task) ≡ cell task 0 0
  unfolding task_in
  task_in_variables = each_length (variable_in task) 0 (cell task 0 0)

  pub task_in_actions : actions (task_in task) ≡ cell task 0 1
  unfolding task_in
  task_in_actions = each_length (action_in task) 0 (cell task 0 1)

  pub task_in_variable : (v : ℕ) → v < variables (task_in task) → variable (task_in task) v ≡ variable_in task v
  unfolding task_in variable
  task_in_variable v h = each_get (variable_in task) 0 (cell task 0 0) v no_variable (omega (arith, task_in_variables)) ∙ ap (variable_in task) (omega arith)

  pub task_in_act : (i : ℕ) → i < actions (task_in task) → act (task_in task) i ≡ action_in task i
  unfolding task_in act
  task_in_act i h = each_get (action_in task) 0 (cell task 0 1) i no_action (omega (arith, task_in_actions)) ∙ ap (action_in task) (omega arith)

  -- the fields of a variable
  module _ (v : ℕ) (h : v < variables (task_in task)) where
    pub count_is : cell task (1 + v) 0 ≡ count (task_in task) v
    unfolding count variable_in
    count_is = sym (ap (λ (x : Variable). x.count) (task_in_variable v h))

    pub black_is : eqb (cell task (1 + v) 1) 1 ≡ black (task_in task) v
    unfolding black variable_in
    black_is = sym (ap (λ (x : Variable). x.black) (task_in_variable v h))

    pub init_is : cell task (1 + v) 2 ≡ (variable (task_in task) v).init
    unfolding variable_in
    init_is = sym (ap (λ (x : Variable). x.init) (task_in_variable v h))

    goal_is : goal_of (cell task (1 + v) 3 / 64) (cell task (1 + v) 3 % 64) ≡ (variable (task_in task) v).goal
    unfolding variable_in
    goal_is = sym (ap (λ (x : Variable). x.goal) (task_in_variable v h))

    pub goal_absent : cell task (1 + v) 3 < 64 → none ≡ (variable (task_in task) v).goal
    unfolding goal_of
    goal_absent l = let z : cell task (1 + v) 3 / 64 ≡ 0 = omega arith in sym (sym goal_is ∙ rw z refl)

    pub goal_value : 64 ≤ cell task (1 + v) 3 → some (cell task (1 + v) 3 % 64) ≡ (variable (task_in task) v).goal
    unfolding goal_of
    goal_value l = let z : cell task (1 + v) 3 / 64 ≡ suc (cell task (1 + v) 3 / 64 - 1) = omega arith in sym (sym goal_is ∙ rw z refl)

-- the order, entry by entry
module _ (task : List ℕ) (P : Prepared task) where
  pub order_length : length (order_in task) ≡ cell task 0 2
  unfolding order_in
  order_length = length-slice order_from (order_from + cell task 0 2) task (omega (arith, P.few, P.loaded.head)) ∙ omega arith

  pub order_get : (p : ℕ) → p < length (order_in task) → get_or (order_in task) p 0 ≡ get_or task (order_from + p) 0
  unfolding order_in
  order_get p h = get_or-drop order_from (take (order_from + cell task 0 2) task) p 0 ∙ get_or-take (order_from + cell task 0 2) task (order_from + p) 0 (omega (arith, order_length))
