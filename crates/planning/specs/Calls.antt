-- The calls (9.1): from what is given (bytes, lists, lengths lent) to number, place, result and every lent entry afterwards. Each is
-- its list of checks in order, and the result if all pass.
use Rattle.std.specs.Prelude.{ℕ, suc, ◌-◌, min, Bool, true, false, ◌&&◌, List, [], ◌∷◌, ◌++◌, leb, ltb, length, take, replicate}
use Rattle.std.proofs.Math.Option.{Option, none, some}
use Rattle.planning.specs.Basics.{Check, check, in_order, Answer, answer, refused, done, code, refuse_at}
use Rattle.planning.specs.Record.{Task, task_of, record_check}
use Rattle.planning.specs.Runs.{State, holds, step, relaxed, real, variables, actions, act, initial, goals, steps_run, is_plan, cost_of, Judgement, judgement}
use Rattle.planning.specs.Newest.{Progress, progress, newest_values}
use Rattle.planning.specs.Relaxed.{forward_run, reaches_goals, facts_reached, relaxed_plan}
use Rattle.planning.specs.Painting.{acyclic_check, return_check}
use Rattle.planning.specs.Repair.{repaired, searches, marks}
use Rattle.planning.specs.Sheet.{Sheet, sheet_bytes, sheet_size, sheet_of, sheet_check, edition_in, steps_in}

-- 7.4, 7.5 and 7.9: a lent list of n entries afterwards
unfoldable pub lent : {A : Type 0} → Answer A → ℕ → List ℕ → List ℕ
lent (refused _ _) n l = replicate n 65535
lent (done _) n l = l ++ replicate (n - length l) 65535

-- 7.5, 7.10 and 8.3: a lent area of n bytes afterwards
unfoldable pub lent_bytes : {A : Type 0} → Answer A → ℕ → List ℕ → List ℕ
lent_bytes (refused _ _) n l = replicate n 0
lent_bytes (done _) n l = l ++ replicate (n - length l) 0

-- 9.1: a call with an area lent for its result: the checks in order, the result, what stands in the front of the area. From these follow the
-- answer, and what every entry of a list of n entries, or of an area of n bytes, holds afterwards.
pub record Call (A : Type 0) : Type 0 where
  pub checks : List Check
  pub result : A
  pub front : List ℕ

abbrev pub answer_to : {A : Type 0} → Call A → Answer A
answer_to c = answer (in_order c.checks) c.result

-- 7.2: the capacity of one list; of plan list, work list and mark area
unfoldable pub capacity : ℕ → ℕ
capacity n = min n 32768

unfoldable pub capacity_of : ℕ → ℕ → ℕ → ℕ
capacity_of plan work marks = capacity (min (min plan work) marks)

-- 7.3, 7.9 and 8.3: there is room, else 11
unfoldable pub room_check : ℕ → ℕ → Check
room_check wanted room = check (leb wanted room) 11 room

-- 4.4: there is a plan, else 10
unfoldable pub goals_check : Task → Check
goals_check t = check (reaches_goals t) 10 (facts_reached t)

-- 9.6 and 8.3: the list is not too long, else 13
unfoldable pub length_check : List ℕ → Check
length_check l = check (leb (length l) 32768) 13 32768

-- 9.6 and 8.3: the position of the lowest entry that is not below n, the first having position k
unfoldable pub not_below : ℕ → ℕ → List ℕ → Option ℕ
not_below n k [] = none
not_below n k (i ∷ l) = elim (ltb i n) [ true ↦ not_below n (suc k) l | false ↦ some k ]

-- 9.6, judging and newest values: all entries are below A, else 9
unfoldable pub entries_check : Task → List ℕ → Check
entries_check t l = refuse_at 9 (not_below (actions t) 0 l)

-- 9.6, repair: the position of the first fault of a list run relaxed from the state s, its first entry having position k; else 9
unfoldable pub relaxed_fault : Task → State → ℕ → List ℕ → Option ℕ
relaxed_fault t s k [] = elim (holds s (goals t)) [ true ↦ none | false ↦ some k ]
relaxed_fault t s k (i ∷ l) = elim (ltb i (actions t) && holds s (act t i).pre) [ true ↦ relaxed_fault t (step relaxed (act t i) s) (suc k) l | false ↦ some k ]

unfoldable pub relaxed_check : Task → List ℕ → Check
relaxed_check t l = refuse_at 9 (relaxed_fault t (initial t) 0 l)

-- 9.1: check of a record; the task that it answers is what later calls use, a caller gets the code alone (9.4)
unfoldable pub check_call : List ℕ → Answer Task
check_call s = answer (record_check s) (task_of s)

unfoldable pub check_code : List ℕ → ℕ
check_code s = code (check_call s)

-- 9.1: judge
unfoldable pub judge_call : List ℕ → List ℕ → Answer Judgement
judge_call s l = answer (in_order (record_check s ∷ length_check l ∷ entries_check (task_of s) l ∷ [])) (judgement (task_of s) l)

-- 9.1 and 7.9: newest values of the list l, with a list of n entries lent for them
abbrev pub showing : List ℕ → List ℕ → ℕ → Call Progress
showing s l n = record {
  checks = record_check s ∷ length_check l ∷ entries_check (task_of s) l ∷ room_check (variables (task_of s)) n ∷ [];
  result = progress (task_of s) l;
  front = newest_values (task_of s) l;
}

unfoldable pub newest_call : List ℕ → List ℕ → ℕ → Answer Progress
newest_call s l n = answer_to (showing s l n)

unfoldable pub newest_list : List ℕ → List ℕ → ℕ → List ℕ
newest_list s l n = lent (newest_call s l n) n (showing s l n).front

-- 9.1: forward run, with a plan list of n entries
pub record Forward : Type 0 where
  pub steps : ℕ
  pub reached : ℕ

abbrev pub forwarding : List ℕ → ℕ → Call Forward
forwarding s n = record {
  checks = record_check s ∷ goals_check (task_of s) ∷ room_check (length (forward_run (task_of s))) (capacity n) ∷ [];
  result = record { steps = length (forward_run (task_of s)); reached = facts_reached (task_of s) };
  front = forward_run (task_of s);
}

unfoldable pub forward_call : List ℕ → ℕ → Answer Forward
forward_call s n = answer_to (forwarding s n)

unfoldable pub forward_list : List ℕ → ℕ → List ℕ
forward_list s n = lent (forward_call s n) n (forwarding s n).front

-- 9.1: relaxed plan, with a plan list of n entries
abbrev pub relaxing : List ℕ → ℕ → Call ℕ
relaxing s n = record {
  checks = record_check s ∷ goals_check (task_of s) ∷ room_check (length (relaxed_plan (task_of s))) (capacity n) ∷ [];
  result = length (relaxed_plan (task_of s));
  front = relaxed_plan (task_of s);
}

unfoldable pub relax_call : List ℕ → ℕ → Answer ℕ
relax_call s n = answer_to (relaxing s n)

unfoldable pub relax_list : List ℕ → ℕ → List ℕ
relax_list s n = lent (relax_call s n) n (relaxing s n).front

-- 9.2, 3.9, 7.7, 7.8 and 6.9: steps, cost, verdict, how many steps run for real, and the path searches
pub record Planned : Type 0 where
  pub steps : ℕ
  pub cost : ℕ
  pub real' : Bool
  pub runs : ℕ
  pub searches' : ℕ

-- of the repair of the list k
unfoldable pub planned : Task → List ℕ → Planned
planned t k =
    let l = repaired t k in
    record { steps = length l; cost = cost_of t l; real' = is_plan t real l; runs = steps_run (act t) real l (initial t); searches' = searches t k }

-- 9.1: repair of the list l, with a plan list of n and a work list of w entries and a mark area of m bytes
abbrev pub repairing : List ℕ → List ℕ → ℕ → ℕ → ℕ → Call Planned
repairing s l n w m = record {
  checks =
      record_check s ∷ acyclic_check (task_of s) ∷ return_check (task_of s) ∷ length_check l ∷ relaxed_check (task_of s) l
      ∷ room_check (length (repaired (task_of s) l)) (capacity_of n w m) ∷ [];
  result = planned (task_of s) l;
  front = repaired (task_of s) l;
}

unfoldable pub repair_call : List ℕ → List ℕ → ℕ → ℕ → ℕ → Answer Planned
repair_call s l n w m = answer_to (repairing s l n w m)

unfoldable pub repair_list : List ℕ → List ℕ → ℕ → ℕ → ℕ → List ℕ
repair_list s l n w m = lent (repair_call s l n w m) n (repairing s l n w m).front

-- 7.10: the mark area afterwards
unfoldable pub repair_marks : List ℕ → List ℕ → ℕ → ℕ → ℕ → List ℕ
repair_marks s l n w m = lent_bytes (repair_call s l n w m) m (marks (task_of s) l)

-- 9.1: planner; the plan is the repaired relaxed plan of the record
unfoldable pub plan_of : Task → List ℕ
plan_of t = repaired t (relaxed_plan t)

abbrev pub planning : List ℕ → ℕ → ℕ → ℕ → Call Planned
planning s n w m = record {
  checks =
      record_check s ∷ acyclic_check (task_of s) ∷ return_check (task_of s) ∷ goals_check (task_of s)
      ∷ room_check (length (plan_of (task_of s))) (capacity_of n w m) ∷ [];
  result = planned (task_of s) (relaxed_plan (task_of s));
  front = plan_of (task_of s);
}

unfoldable pub plan_call : List ℕ → ℕ → ℕ → ℕ → Answer Planned
plan_call s n w m = answer_to (planning s n w m)

unfoldable pub plan_list : List ℕ → ℕ → ℕ → ℕ → List ℕ
plan_list s n w m = lent (plan_call s n w m) n (planning s n w m).front

unfoldable pub plan_marks : List ℕ → ℕ → ℕ → ℕ → List ℕ
plan_marks s n w m = lent_bytes (plan_call s n w m) m (marks (task_of s) (relaxed_plan (task_of s)))

-- 7.6: the work list afterwards
unfoldable pub work_list : ℕ → List ℕ
work_list w = replicate w 65535

-- 7.4: the plan that is returned, at the front of the plan list l; 7.10: its marks, at the front of the mark area
unfoldable pub plan_in : Answer Planned → List ℕ → List ℕ
plan_in (refused _ _) l = []
plan_in (done p) l = take p.steps l

abbrev pub marks_in : Answer Planned → List ℕ → List ℕ
marks_in = plan_in

-- 7.8: the running part of the plan list l
unfoldable pub runnable : Answer Planned → List ℕ → List ℕ
runnable (refused _ _) l = []
runnable (done p) l = take p.runs l

-- 9.1 and 8.3: write a sheet into n bytes
abbrev pub writing : Sheet → ℕ → Call ℕ
writing x n = record {
  checks = length_check x.steps ∷ refuse_at 13 (not_below 1024 0 x.steps) ∷ room_check (sheet_size x.edition (length x.steps)) n ∷ [];
  result = sheet_size x.edition (length x.steps);
  front = sheet_bytes x;
}

unfoldable pub write_call : Sheet → ℕ → Answer ℕ
write_call x n = answer_to (writing x n)

unfoldable pub write_bytes : Sheet → ℕ → List ℕ
write_bytes x n = lent_bytes (write_call x n) n (writing x n).front

-- 9.1 and 8.4: read a sheet into a plan list of n entries and a mark area of m bytes
pub record Read : Type 0 where
  pub steps : ℕ
  pub cost : ℕ
  pub edition : ℕ
  pub real' : Bool

abbrev pub reading : List ℕ → ℕ → ℕ → Call Read
reading s n m = record {
  checks = sheet_check s ∷ room_check (steps_in s) (capacity (min n m)) ∷ [];
  result = record { steps = steps_in s; cost = (sheet_of s).cost; edition = edition_in s; real' = (sheet_of s).real };
  front = (sheet_of s).steps;
}

unfoldable pub read_call : List ℕ → ℕ → ℕ → Answer Read
read_call s n m = answer_to (reading s n m)

unfoldable pub read_list : List ℕ → ℕ → ℕ → List ℕ
read_list s n m = lent (read_call s n m) n (reading s n m).front

unfoldable pub read_marks : List ℕ → ℕ → ℕ → List ℕ
read_marks s n m = lent_bytes (read_call s n m) m (sheet_of s).marks
