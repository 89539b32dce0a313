-- Demand 3 (11.3); what a repair makes (6.1), its bounds (6.8, 6.9) and the way back from it (6.10).
use Rattle.std.specs.Prelude.{ℕ, ◌-◌, ◌*◌, ◌≤◌, ◌≡◌, Bool, true, false, List, ◌++◌, length, replicate}
use Rattle.std.proofs.Math.Option.{none}
use Rattle.planning.specs.Basics.{Answer, refused, done, tally, times}
use Rattle.planning.specs.Record.{Task, task_of, record_check}
use Rattle.planning.specs.Runs.{variables, count, black, is_plan}
use Rattle.planning.specs.Relaxed.{addable}
use Rattle.planning.specs.Painting.{cyclic, unreturned}
use Rattle.planning.specs.Repair.{unmarked}
use Rattle.planning.specs.Calls.{capacity_of, Planned, repair_call, repair_list, repair_marks}

-- 1.8: what a variable gives to P; P
unfoldable pub share : Bool → ℕ → ℕ
share true c = c
share false c = 1

unfoldable pub black_product : Task → ℕ
black_product t = times (variables t) (λ v. share (black t v) (count t v))

-- 11.3: F × P
unfoldable pub step_bound : Task → ℕ
step_bound t = addable t * black_product t

-- 11.3: the list is a red-black plan of the task
abbrev pub RedBlackPlan : Task → List ℕ → Type 0
RedBlackPlan t l = is_plan t (black t) l ≡ true

-- 11.3: the planner says no plan; it returns a plan
abbrev pub SaysNoPlan : Answer Planned → Type 0
SaysNoPlan (refused number place) = number ≡ 10
SaysNoPlan (done p) = ⊥

abbrev pub ReturnsPlan : Answer Planned → Type 0
ReturnsPlan (refused number place) = ⊥
ReturnsPlan (done p) = Unit {0}

-- 11.3: what answer r, plan l and the lengths n, w and m of plan list, work list and mark area satisfy on a task
pub record Complete (t : Task) (n w m : ℕ) (r : Answer Planned) (l : List ℕ) : Type 0 where
  -- no plan is said, and said only, where no list is one
  pub no_plan : SaysNoPlan r → (k : List ℕ) → RedBlackPlan t k → ⊥
  pub says_so : ((k : List ℕ) → RedBlackPlan t k → ⊥) → SaysNoPlan r
  -- a plan returned is one, and short
  pub is_red_black_plan : ReturnsPlan r → RedBlackPlan t l
  pub short : ReturnsPlan r → length l ≤ step_bound t
  -- with room for F × P a plan is returned wherever there is one
  pub finds : step_bound t ≤ 32768 → step_bound t ≤ capacity_of n w m → (k : List ℕ) → RedBlackPlan t k → ReturnsPlan r

-- 11.3: of every record that passes 1 to 8
abbrev pub Demand3 : List ℕ → ℕ → ℕ → ℕ → Answer Planned → List ℕ → Type 0
Demand3 s n w m r l = record_check s ≡ none → cyclic (task_of s) ≡ none → unreturned (task_of s) ≡ none → Complete (task_of s) n w m r l

-- 6.1 and 6.8: what the repair of the list k returns, with answer r and plan l, is a red-black plan of at most n × P steps
abbrev pub Bounded : List ℕ → List ℕ → Answer Planned → List ℕ → Type 0
Bounded s k r l = ReturnsPlan r → RedBlackPlan (task_of s) l × (length l ≤ length k * black_product (task_of s))

-- 6.9: m, the number of black variables; n × P × m for the list k; the searches that an answer tells, 0 after a refusal
unfoldable pub black_count : Task → ℕ
black_count t = tally (variables t) (black t)

unfoldable pub search_bound : Task → List ℕ → ℕ
search_bound t k = length k * black_product t * black_count t

unfoldable pub searches_in : Answer Planned → ℕ
searches_in (refused _ _) = 0
searches_in (done p) = p.searches'

-- 6.9: the repair of the list k takes no more
abbrev pub Ceiling : List ℕ → List ℕ → Answer Planned → Type 0
Ceiling s k r = searches_in r ≤ search_bound (task_of s) k

-- 6.10: what holds of the plan l with the marks ms, answered by r, of a repair of the list k: without its marked steps it is k, and these,
-- repaired with any room that holds the plan, give the same answer, plan and marks
pub record Recovered (s k : List ℕ) (r : Answer Planned) (l ms : List ℕ) : Type 0 where
  pub gives_back : unmarked l ms ≡ k
  pub answer' : (n w m : ℕ) → length l ≤ capacity_of n w m → repair_call s (unmarked l ms) n w m ≡ r
  pub plan' : (n w m : ℕ) → length l ≤ capacity_of n w m → repair_list s (unmarked l ms) n w m ≡ l ++ replicate (n - length l) 65535
  pub marks' : (n w m : ℕ) → length l ≤ capacity_of n w m → repair_marks s (unmarked l ms) n w m ≡ ms ++ replicate (m - length l) 0

abbrev pub Recovers : List ℕ → List ℕ → Answer Planned → List ℕ → List ℕ → Type 0
Recovers s k r l ms = ReturnsPlan r → Recovered s k r l ms
