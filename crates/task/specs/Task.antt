-- The loaded task: one list of numbers, in rows of four.
--   row 0          the number of variables, the number of actions, the number of black variables in the order, where the heads start
--   row 1 + v      variable v: its count of values, 1 if it is black, its initial value, its goal (64 + value, or 0 for none)
--   from 260 on    the clients-first order of the black variables                              64 places
--   from 324 on    for each action the next one that changes to the same black fact            1,024 places
--   row 337 + i    action i: its cost, where its preconditions start, where its effects start, where they end
--   behind         facts, each 64 × variable + value
--   behind these   the heads: for each fact 64 × variable + value the first action that changes to it; 64 places a variable
-- The loader writes all but the order, the next actions and the heads, which are written once the painting is looked at (Links.antt).
use Rattle.std.specs.Prelude.{◌≡◌, List, [], ◌∷◌, map, ℕ, zero, suc, ◌+◌, ◌*◌, ◌/◌, ◌%◌, ◌<◌, ◌≤◌, eqb, length, get_or}
use Rattle.std.proofs.Math.Seq.{slice}
use Rattle.planning.specs.Record.{Fact, Action, Variable, Task, goal_of}
use Rattle.planning.specs.Runs.{variables, actions}
use Rattle.laws.proofs.Formed.{Formed}

-- where the parts start: the order, the next actions by the fact to which they change; the end of both; the row of action 0
abbrev pub order_from : ℕ
order_from = 260

abbrev pub nexts_from : ℕ
nexts_from = 324

abbrev pub links_end : ℕ
links_end = 1348

abbrev pub action_rows : ℕ
action_rows = 337

abbrev pub cell : List ℕ → ℕ → ℕ → ℕ
cell task r k = get_or task (4 * r + k) 0

-- where the heads start
abbrev pub heads_at : List ℕ → ℕ
heads_at task = cell task 0 3

unfoldable pub fact_of : ℕ → Fact
fact_of w = record { var = w / 64; val = w % 64 }

-- the facts in a list of numbers
unfoldable pub facts_of : List ℕ → List Fact
facts_of facts = map fact_of facts

-- the facts in the numbers from place a up to place b
unfoldable pub facts_in : List ℕ → ℕ → ℕ → List Fact
facts_in task a b = map fact_of (slice a b task)

-- each number is a fact
abbrev pub AllFacts : List ℕ → Type 0
AllFacts facts = (k : ℕ) → k < length facts → get_or facts k 0 < 4096

-- the numbers are facts, and these are they
pub record States (facts : List ℕ) (fs : List Fact) : Type 0 where
  pub stated : facts_of facts ≡ fs
  pub small : AllFacts facts

unfoldable pub variable_in : List ℕ → ℕ → Variable
variable_in task v = record {
  count = cell task (1 + v) 0;
  black = eqb (cell task (1 + v) 1) 1;
  init = cell task (1 + v) 2;
  goal = goal_of (cell task (1 + v) 3 / 64) (cell task (1 + v) 3 % 64);
}

-- the fields of action i
abbrev pub cost_at : List ℕ → ℕ → ℕ
cost_at task i = cell task (action_rows + i) 0

abbrev pub pre_at : List ℕ → ℕ → ℕ
pre_at task i = cell task (action_rows + i) 1

abbrev pub eff_at : List ℕ → ℕ → ℕ
eff_at task i = cell task (action_rows + i) 2

abbrev pub end_at : List ℕ → ℕ → ℕ
end_at task i = cell task (action_rows + i) 3

unfoldable pub action_in : List ℕ → ℕ → Action
action_in task i = record {
  cost = cost_at task i;
  pre = facts_in task (pre_at task i) (eff_at task i);
  eff = facts_in task (eff_at task i) (end_at task i);
}

-- f a, f (a + 1) and so on, n of them
unfoldable pub each : {A : Type 0} → (ℕ → A) → ℕ → ℕ → List A
each f a zero = []
each f a (suc n) = f a ∷ each f (suc a) n

-- the task that the list states
unfoldable pub task_in : List ℕ → Task
task_in task = record {
  vars = each (variable_in task) 0 (cell task 0 0);
  acts = each (action_in task) 0 (cell task 0 1);
}

-- row r says where facts stand, and they are there, between the fixed parts and the heads
pub record Row (task : List ℕ) (r : ℕ) : Type 0 where
  pub room : 4 * r + 4 ≤ length task
  pub behind : links_end ≤ cell task r 1
  pub pre_below : cell task r 1 ≤ cell task r 2
  pub eff_below : cell task r 2 ≤ cell task r 3
  pub end_below : cell task r 3 ≤ length task
  pub apart : (4 * r + 4 ≤ heads_at task) × (cell task r 3 ≤ heads_at task)

-- heads for n facts are there, behind the fixed parts
pub record Heads (n : ℕ) (task : List ℕ) : Type 0 where
  pub behind : links_end ≤ heads_at task
  pub room : heads_at task + n ≤ length task

-- the list states a task of an accepted record
pub record Loaded (task : List ℕ) : Type 0 where
  pub formed : Formed (task_in task)
  pub head : links_end ≤ length task
  pub rows : (i : ℕ) → i < actions (task_in task) → Row task (action_rows + i)
  pub heads : Heads (64 * variables (task_in task)) task
