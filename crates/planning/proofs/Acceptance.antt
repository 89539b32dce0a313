-- The examples of clause 12: one table, proved by one theorem. Each record, the bytes of examples/*.record, states the task that the
-- clause describes; the planner is called on it, or the newest values of a list are asked for; antt computes the rows, so that a definition
-- that makes one false is refused here.
use Prim.Native.Nat.{ℕ, zero, suc}
use mathlib.Core.Path.{◌≡◌, refl}
use mathlib.Core.Bool.{Bool, true, false}
use mathlib.Core.List.{List, [], ◌∷◌}
use mathlib.Core.Option.{Option, none, some}
use lib.Dec.{leb}
use lib.ListN.{length, replicate}
use Rattle.planning.specs.Basics.{Answer, refused, done, times, check, and_then, in_order, answer, bit_at, bits_at, holds_field, some_below, one_if}
use Rattle.planning.specs.Basics.{tally, first, total, refuse_at, reach}
use Rattle.planning.specs.Record.{Fact, Action, Variable, Task, variables_in, actions_in, goal_of, variable_at, variables_at, facts_at, preconditions_in}
use Rattle.planning.specs.Record.{effects_in, effects_from, action_end, action_at, actions_at, actions_end, task_of, field_check, header_checks, goal_fits}
use Rattle.planning.specs.Record.{variable_checks, variables_checks, count_in, fact_checks, facts_checks, action_checks, actions_checks, ends_at}
use Rattle.planning.specs.Record.{record_end, record_checks, record_check}
use Rattle.planning.specs.Runs.{has, touches, look, holds, step, variable, act, count, black, initial, goals_from, goals, run_by, runs_by, steps_by}
use Rattle.planning.specs.Runs.{actions, all_below, is_plan, size, facts_in, cost_by}
use Rattle.planning.specs.Relaxed.{adds, cheapest, forward, addable, forward_run, forward_end, reaches_goals, facts_reached, first_achiever, is, reached_needed, keep, relaxed_plan}
use Rattle.planning.specs.Painting.{without, reduced_effects, causal_arc, black_arc, on_cycle, cyclic, fits, leaves, or_zero, target, arc_from, outside, return_by, lacks_return}
use Rattle.planning.specs.Painting.{unreturned, acyclic_check, return_check}
use Rattle.planning.specs.Repair.{known, union, ever_after, usable_arc, smaller, better, choose, best_below, behind, best_in, best_path, toward, after, pass, fill, ready, clients_first}
use Rattle.planning.specs.Repair.{order, value, black_met, moves, asked_for, pass_searches, fill_searches, move_searches, stage_steps, all_steps, all_searches, stages_from, stages, repaired, searches}
use Rattle.planning.specs.Repair.{stage_marks, all_marks, marks, unmarked}
use Rattle.planning.specs.Newest.{initial_values, newer, tracked, track, red_black_steps, stops_in, tabulate, newest_values, Progress, progress}
use Rattle.planning.specs.Existence.{share, black_product, black_count, search_bound, searches_in}
use Rattle.planning.specs.Calls.{Planned, lent, capacity, capacity_of, room_check, goals_check, planned, plan_of, plan_call, plan_list}
use Rattle.planning.specs.Calls.{lent_bytes, relaxed_fault, relaxed_check, repair_call, repair_list, repair_marks, plan_marks}
use Rattle.planning.specs.Calls.{newest_call, newest_list, length_check, not_below, entries_check}

-- two-shelves, clause 12.3
unfoldable pub two_shelves : List ℕ
two_shelves =
    16 ∷ 64 ∷ 16 ∷ 24 ∷ 16 ∷ 2 ∷ 3 ∷ 0 ∷ 0 ∷ 16 ∷ 68 ∷ 0 ∷ 0 ∷ 4 ∷ 0 ∷ 16 ∷ 68 ∷ 0 ∷ 64 ∷ 0 ∷ 0 ∷ 4 ∷ 132 ∷ 0 ∷ 65 ∷ 4 ∷
    16 ∷ 128 ∷ 0 ∷ 72 ∷ 64 ∷ 0 ∷ 16 ∷ 129 ∷ 0 ∷ []

-- two-shelves-without-1, 12.5
unfoldable pub without_one : List ℕ
without_one =
    16 ∷ 64 ∷ 12 ∷ 24 ∷ 16 ∷ 2 ∷ 3 ∷ 0 ∷ 0 ∷ 16 ∷ 68 ∷ 0 ∷ 0 ∷ 4 ∷ 0 ∷ 4 ∷ 132 ∷ 0 ∷ 65 ∷ 4 ∷ 16 ∷ 128 ∷ 0 ∷ 72 ∷ 64 ∷ 0 ∷
    16 ∷ 129 ∷ 0 ∷ []

-- two-shelves-without-2, 12.6
unfoldable pub without_two : List ℕ
without_two =
    16 ∷ 64 ∷ 12 ∷ 24 ∷ 16 ∷ 2 ∷ 3 ∷ 0 ∷ 0 ∷ 16 ∷ 68 ∷ 0 ∷ 0 ∷ 4 ∷ 0 ∷ 16 ∷ 68 ∷ 0 ∷ 64 ∷ 0 ∷ 0 ∷ 4 ∷ 132 ∷ 0 ∷ 1 ∷ 8 ∷
    16 ∷ 0 ∷ []

-- lamp-1, 12.7
unfoldable pub lamp_one : List ℕ
lamp_one =
    16 ∷ 64 ∷ 8 ∷ 24 ∷ 0 ∷ 2 ∷ 0 ∷ 0 ∷ 0 ∷ 4 ∷ 72 ∷ 0 ∷ 0 ∷ 4 ∷ 16 ∷ 64 ∷ 0 ∷ 72 ∷ 64 ∷ 4 ∷ 16 ∷ 64 ∷ 0 ∷ []

-- lamp-2, 12.7
unfoldable pub lamp_two : List ℕ
lamp_two =
    16 ∷ 64 ∷ 8 ∷ 24 ∷ 0 ∷ 2 ∷ 0 ∷ 0 ∷ 0 ∷ 4 ∷ 72 ∷ 0 ∷ 0 ∷ 4 ∷ 16 ∷ 64 ∷ 0 ∷ 72 ∷ 64 ∷ 4 ∷ 16 ∷ 128 ∷ 0 ∷ []

-- two-black-effects, 12.8
unfoldable pub both_black : List ℕ
both_black =
    16 ∷ 64 ∷ 4 ∷ 24 ∷ 0 ∷ 1 ∷ 128 ∷ 0 ∷ 0 ∷ 4 ∷ 8 ∷ 0 ∷ 65 ∷ 4 ∷ []

-- the same with the effects 0=0, 1=1: clause 12.8, end
unfoldable pub initial_set : List ℕ
initial_set = 16 ∷ 64 ∷ 4 ∷ 24 ∷ 0 ∷ 1 ∷ 128 ∷ 0 ∷ 0 ∷ 4 ∷ 8 ∷ 0 ∷ 1 ∷ 4 ∷ []

-- goal-met, 12.10
unfoldable pub goal_met : List ℕ
goal_met =
    16 ∷ 64 ∷ 16 ∷ 24 ∷ 16 ∷ 2 ∷ 3 ∷ 4 ∷ 0 ∷ 16 ∷ 68 ∷ 0 ∷ 0 ∷ 4 ∷ 0 ∷ 16 ∷ 68 ∷ 0 ∷ 64 ∷ 0 ∷ 0 ∷ 4 ∷ 132 ∷ 0 ∷ 65 ∷ 4 ∷
    16 ∷ 128 ∷ 0 ∷ 72 ∷ 64 ∷ 0 ∷ 16 ∷ 129 ∷ 0 ∷ []

-- tray, 12.11
unfoldable pub tray : List ℕ
tray =
    16 ∷ 96 ∷ 8 ∷ 16 ∷ 0 ∷ 1 ∷ 1 ∷ 4 ∷ 16 ∷ 16 ∷ 64 ∷ 0 ∷ 72 ∷ 128 ∷ 0 ∷ 16 ∷ 0 ∷ 4 ∷ 16 ∷ 64 ∷ 0 ∷ 72 ∷ 128 ∷ 0 ∷ 32 ∷ 0 ∷
    4 ∷ 32 ∷ 64 ∷ []

-- door, 12.13
unfoldable pub door : List ℕ
door =
    16 ∷ 96 ∷ 20 ∷ 24 ∷ 16 ∷ 1 ∷ 129 ∷ 0 ∷ 16 ∷ 16 ∷ 64 ∷ 0 ∷ 68 ∷ 64 ∷ 0 ∷ 0 ∷ 64 ∷ 0 ∷ 68 ∷ 64 ∷ 4 ∷ 0 ∷ 0 ∷ 1 ∷ 8 ∷ 64 ∷
    4 ∷ 16 ∷ 1 ∷ 4 ∷ 0 ∷ 16 ∷ 132 ∷ 0 ∷ 65 ∷ 4 ∷ 16 ∷ 0 ∷ 0 ∷ 140 ∷ 64 ∷ 0 ∷ 16 ∷ 66 ∷ 0 ∷ 32 ∷ 64 ∷ []

-- lit-return, 12.14
unfoldable pub lit_return : List ℕ
lit_return =
    16 ∷ 96 ∷ 20 ∷ 24 ∷ 16 ∷ 65 ∷ 0 ∷ 0 ∷ 32 ∷ 16 ∷ 128 ∷ 0 ∷ 72 ∷ 64 ∷ 0 ∷ 16 ∷ 64 ∷ 4 ∷ 0 ∷ 16 ∷ 68 ∷ 0 ∷ 0 ∷ 4 ∷ 0 ∷
    16 ∷ 72 ∷ 0 ∷ 64 ∷ 0 ∷ 16 ∷ 64 ∷ 0 ∷ 136 ∷ 64 ∷ 4 ∷ 32 ∷ 2 ∷ 4 ∷ 0 ∷ 8 ∷ 132 ∷ 0 ∷ 2 ∷ 4 ∷ 32 ∷ 128 ∷ []

-- repeated-variable, 12.15
unfoldable pub repeated_variable : List ℕ
repeated_variable =
    16 ∷ 32 ∷ 4 ∷ 16 ∷ 0 ∷ 0 ∷ 0 ∷ 64 ∷ 128 ∷ 0 ∷ 0 ∷ 64 ∷ []

-- variables-64 and variables-65, 12.12: the two bytes given, 32 times two red variables of 64 values, and the end given
unfoldable pub red_pairs : ℕ → List ℕ → List ℕ
red_pairs zero end = end
red_pairs (suc n) end = 3 ∷ 240 ∷ 0 ∷ 63 ∷ 0 ∷ red_pairs n end

unfoldable pub variables64 : List ℕ
variables64 = 24 ∷ 0 ∷ red_pairs 32 (0 ∷ [])

unfoldable pub variables65 : List ℕ
variables65 = 24 ∷ 32 ∷ red_pairs 32 (3 ∷ 240 ∷ 0 ∷ 0 ∷ [])

-- newest, 12.17
unfoldable pub newest : List ℕ
newest =
    16 ∷ 96 ∷ 20 ∷ 24 ∷ 16 ∷ 1 ∷ 1 ∷ 4 ∷ 16 ∷ 0 ∷ 0 ∷ 1 ∷ 4 ∷ 128 ∷ 0 ∷ 0 ∷ 66 ∷ 4 ∷ 0 ∷ 16 ∷ 68 ∷ 0 ∷ 64 ∷ 0 ∷ 0 ∷ 4 ∷
    132 ∷ 0 ∷ 65 ∷ 0 ∷ 16 ∷ 64 ∷ 0 ∷ 72 ∷ 64 ∷ 4 ∷ 16 ∷ 65 ∷ 0 ∷ 0 ∷ 8 ∷ 132 ∷ 16 ∷ 66 ∷ 0 ∷ 32 ∷ 0 ∷ []

-- two-shelves-with-4, 12.18
unfoldable pub with_four : List ℕ
with_four =
    16 ∷ 64 ∷ 20 ∷ 24 ∷ 16 ∷ 2 ∷ 3 ∷ 0 ∷ 0 ∷ 16 ∷ 68 ∷ 0 ∷ 0 ∷ 4 ∷ 0 ∷ 16 ∷ 68 ∷ 0 ∷ 64 ∷ 0 ∷ 0 ∷ 4 ∷ 132 ∷ 0 ∷ 65 ∷ 4 ∷
    16 ∷ 128 ∷ 0 ∷ 72 ∷ 64 ∷ 0 ∷ 16 ∷ 129 ∷ 0 ∷ 0 ∷ 12 ∷ 68 ∷ 0 ∷ 0 ∷ 4 ∷ []

-- gate, 12.19
unfoldable pub gate : List ℕ
gate =
    16 ∷ 96 ∷ 20 ∷ 24 ∷ 16 ∷ 1 ∷ 129 ∷ 0 ∷ 16 ∷ 16 ∷ 64 ∷ 0 ∷ 68 ∷ 64 ∷ 0 ∷ 0 ∷ 64 ∷ 0 ∷ 68 ∷ 64 ∷ 4 ∷ 0 ∷ 0 ∷ 1 ∷ 8 ∷ 128 ∷
    4 ∷ 16 ∷ 0 ∷ 4 ∷ 16 ∷ 64 ∷ 1 ∷ 8 ∷ 128 ∷ 4 ∷ 16 ∷ 64 ∷ 4 ∷ 16 ∷ 0 ∷ 0 ∷ 140 ∷ 64 ∷ 0 ∷ 16 ∷ 66 ∷ 0 ∷ 32 ∷ 64 ∷ []

-- detour, 12.20
unfoldable pub detour : List ℕ
detour =
    16 ∷ 64 ∷ 28 ∷ 40 ∷ 16 ∷ 1 ∷ 1 ∷ 4 ∷ 0 ∷ 20 ∷ 68 ∷ 0 ∷ 128 ∷ 0 ∷ 0 ∷ 4 ∷ 68 ∷ 0 ∷ 0 ∷ 4 ∷ 0 ∷ 4 ∷ 68 ∷ 0 ∷ 64 ∷ 8 ∷
    0 ∷ 4 ∷ 68 ∷ 0 ∷ 128 ∷ 4 ∷ 0 ∷ 4 ∷ 68 ∷ 0 ∷ 64 ∷ 0 ∷ 0 ∷ 20 ∷ 68 ∷ 0 ∷ 0 ∷ 8 ∷ 0 ∷ 4 ∷ 132 ∷ 0 ∷ 129 ∷ 0 ∷ 16 ∷ 64 ∷ []

-- ring, 12.21
unfoldable pub ring : List ℕ
ring =
    16 ∷ 64 ∷ 36 ∷ 56 ∷ 16 ∷ 1 ∷ 1 ∷ 4 ∷ 0 ∷ 0 ∷ 68 ∷ 0 ∷ 0 ∷ 4 ∷ 0 ∷ 0 ∷ 68 ∷ 0 ∷ 64 ∷ 8 ∷ 0 ∷ 0 ∷ 68 ∷ 0 ∷ 128 ∷ 12 ∷
    0 ∷ 0 ∷ 68 ∷ 0 ∷ 192 ∷ 8 ∷ 0 ∷ 0 ∷ 68 ∷ 0 ∷ 128 ∷ 4 ∷ 0 ∷ 0 ∷ 68 ∷ 0 ∷ 64 ∷ 0 ∷ 0 ∷ 0 ∷ 68 ∷ 0 ∷ 192 ∷ 0 ∷ 0 ∷ 0 ∷
    68 ∷ 0 ∷ 0 ∷ 12 ∷ 0 ∷ 4 ∷ 132 ∷ 0 ∷ 193 ∷ 0 ∷ 16 ∷ 64 ∷ []

-- diamond, 12.22
unfoldable pub diamond : List ℕ
diamond =
    16 ∷ 64 ∷ 44 ∷ 56 ∷ 16 ∷ 1 ∷ 1 ∷ 4 ∷ 0 ∷ 4 ∷ 68 ∷ 0 ∷ 0 ∷ 4 ∷ 0 ∷ 4 ∷ 68 ∷ 0 ∷ 64 ∷ 8 ∷ 0 ∷ 4 ∷ 68 ∷ 0 ∷ 128 ∷ 12 ∷
    0 ∷ 4 ∷ 68 ∷ 0 ∷ 192 ∷ 4 ∷ 0 ∷ 8 ∷ 68 ∷ 0 ∷ 192 ∷ 8 ∷ 0 ∷ 4 ∷ 68 ∷ 0 ∷ 128 ∷ 0 ∷ 0 ∷ 8 ∷ 68 ∷ 0 ∷ 64 ∷ 0 ∷ 0 ∷ 16 ∷
    68 ∷ 0 ∷ 0 ∷ 8 ∷ 0 ∷ 16 ∷ 68 ∷ 0 ∷ 64 ∷ 12 ∷ 0 ∷ 16 ∷ 68 ∷ 0 ∷ 128 ∷ 4 ∷ 0 ∷ 4 ∷ 132 ∷ 0 ∷ 193 ∷ 0 ∷ 16 ∷ 64 ∷ []

-- lift, 12.23
unfoldable pub lift : List ℕ
lift =
    16 ∷ 96 ∷ 20 ∷ 24 ∷ 16 ∷ 1 ∷ 129 ∷ 4 ∷ 16 ∷ 16 ∷ 64 ∷ 0 ∷ 64 ∷ 64 ∷ 4 ∷ 0 ∷ 4 ∷ 4 ∷ 0 ∷ 0 ∷ 0 ∷ 132 ∷ 64 ∷ 4 ∷ 16 ∷ 64 ∷
    0 ∷ 132 ∷ 64 ∷ 4 ∷ 16 ∷ 0 ∷ 0 ∷ 200 ∷ 64 ∷ 4 ∷ 16 ∷ 2 ∷ 4 ∷ []

-- how a clause writes facts, actions and variables
abbrev pub fact : ℕ → ℕ → Fact
fact v d = record { var = v; val = d }

abbrev pub action : ℕ → List Fact → List Fact → Action
action c p e = record { cost = c; pre = p; eff = e }

abbrev pub black_one : ℕ → ℕ → Option ℕ → Variable
black_one n i g = record { count = n; black = true; init = i; goal = g }

abbrev pub red_one : ℕ → ℕ → Option ℕ → Variable
red_one n i g = record { count = n; black = false; init = i; goal = g }

abbrev pub task : List Variable → List Action → Task
task vs l = record { vars = vs; acts = l }

-- two shelves, with the box's goal and the actions
abbrev pub drive_out : Action
drive_out = action 4 (fact 0 0 ∷ []) (fact 0 1 ∷ [])

abbrev pub drive_out_for3 : Action
drive_out_for3 = action 3 (fact 0 0 ∷ []) (fact 0 1 ∷ [])

abbrev pub drive_back : Action
drive_back = action 4 (fact 0 1 ∷ []) (fact 0 0 ∷ [])

abbrev pub pick_up : Action
pick_up = action 1 (fact 0 1 ∷ fact 1 1 ∷ []) (fact 1 2 ∷ [])

abbrev pub put_down : Action
put_down = action 1 (fact 0 0 ∷ fact 1 2 ∷ []) (fact 1 0 ∷ [])

abbrev pub shelves : ℕ → List Action → Task
shelves g l = task (black_one 2 0 (some 0) ∷ red_one 3 1 (some g) ∷ []) l

-- the lamp, whose return needs it at x
abbrev pub lamp : ℕ → Task
lamp x =
    task (black_one 2 0 none ∷ red_one 3 0 none ∷ [])
    (action 1 (fact 0 0 ∷ []) (fact 0 1 ∷ fact 1 1 ∷ []) ∷ action 1 (fact 0 1 ∷ fact 1 x ∷ []) (fact 0 0 ∷ []) ∷ [])

abbrev pub tray_task : Task
tray_task =
    task (red_one 2 0 none ∷ red_one 2 0 (some 1) ∷ red_one 2 0 (some 1) ∷ [])
    (action 1 (fact 0 0 ∷ fact 1 0 ∷ []) (fact 0 1 ∷ fact 1 1 ∷ []) ∷ action 1 (fact 0 0 ∷ fact 2 0 ∷ []) (fact 0 1 ∷ fact 2 1 ∷ []) ∷ [])

abbrev pub door_task : Task
door_task =
    task (black_one 2 0 (some 0) ∷ black_one 2 0 (some 0) ∷ red_one 2 0 (some 1) ∷ [])
    (action 1 (fact 0 0 ∷ []) (fact 0 1 ∷ []) ∷ action 1 (fact 0 1 ∷ []) (fact 0 0 ∷ [])
    ∷ action 4 (fact 0 1 ∷ fact 1 0 ∷ []) (fact 1 1 ∷ []) ∷ action 4 (fact 0 1 ∷ fact 1 1 ∷ []) (fact 1 0 ∷ [])
    ∷ action 2 (fact 0 0 ∷ fact 1 1 ∷ fact 2 0 ∷ []) (fact 2 1 ∷ []) ∷ [])

abbrev pub gate_task : Task
gate_task =
    task (black_one 2 0 (some 0) ∷ black_one 2 0 (some 0) ∷ red_one 2 0 (some 1) ∷ [])
    (action 1 (fact 0 0 ∷ []) (fact 0 1 ∷ []) ∷ action 1 (fact 0 1 ∷ []) (fact 0 0 ∷ [])
    ∷ action 4 (fact 0 1 ∷ fact 1 0 ∷ []) (fact 0 1 ∷ fact 1 1 ∷ []) ∷ action 4 (fact 0 1 ∷ fact 1 1 ∷ []) (fact 0 1 ∷ fact 1 0 ∷ [])
    ∷ action 2 (fact 0 0 ∷ fact 1 1 ∷ fact 2 0 ∷ []) (fact 2 1 ∷ []) ∷ [])

-- a move of the carriage, variable 0; the box, variable 1, taken at d
abbrev pub move_of : ℕ → ℕ → ℕ → Action
move_of c d e = action c (fact 0 d ∷ []) (fact 0 e ∷ [])

abbrev pub take_action_at : ℕ → Action
take_action_at d = action 1 (fact 0 d ∷ fact 1 0 ∷ []) (fact 1 1 ∷ [])

abbrev pub way_back : ℕ → List Action → Task
way_back n acts = task (black_one n 0 (some 0) ∷ red_one 2 0 (some 1) ∷ []) acts

abbrev pub detour_task : Task
detour_task = way_back 3 (move_of 5 2 0 ∷ move_of 1 0 1 ∷ move_of 1 1 2 ∷ move_of 1 2 1 ∷ move_of 1 1 0 ∷ move_of 5 0 2 ∷ take_action_at 2 ∷ [])

abbrev pub ring_task : Task
ring_task =
    way_back 4 (move_of 0 0 1 ∷ move_of 0 1 2 ∷ move_of 0 2 3 ∷ move_of 0 3 2 ∷ move_of 0 2 1 ∷ move_of 0 1 0 ∷ move_of 0 3 0 ∷ move_of 0 0 3 ∷ take_action_at 3 ∷ [])

abbrev pub diamond_task : Task
diamond_task = way_back 4
    (move_of 1 0 1 ∷ move_of 1 1 2 ∷ move_of 1 2 3 ∷ move_of 1 3 1 ∷ move_of 2 3 2 ∷ move_of 1 2 0 ∷ move_of 2 1 0
    ∷ move_of 4 0 2 ∷ move_of 4 1 3 ∷ move_of 4 2 1 ∷ take_action_at 3 ∷ [])

abbrev pub lift_task : Task
lift_task =
    task (black_one 2 0 (some 0) ∷ black_one 2 0 (some 1) ∷ red_one 2 0 (some 1) ∷ [])
    (action 1 [] (fact 0 1 ∷ []) ∷ action 1 [] (fact 0 0 ∷ []) ∷ action 2 (fact 0 1 ∷ []) (fact 1 1 ∷ [])
    ∷ action 2 (fact 0 1 ∷ []) (fact 1 0 ∷ []) ∷ action 3 (fact 0 1 ∷ fact 1 0 ∷ []) (fact 2 1 ∷ []) ∷ [])

-- black variables with one value that every drive needs: more searches than n × P
abbrev pub crew_task : Task
crew_task =
    task (black_one 2 0 (some 0) ∷ black_one 1 0 (some 0) ∷ black_one 1 0 (some 0) ∷ red_one 2 0 (some 1) ∷ [])
    (action 1 (fact 0 0 ∷ fact 1 0 ∷ fact 2 0 ∷ []) (fact 0 1 ∷ []) ∷ action 1 (fact 0 1 ∷ fact 1 0 ∷ fact 2 0 ∷ []) (fact 0 0 ∷ [])
    ∷ action 1 (fact 0 1 ∷ []) (fact 3 1 ∷ []) ∷ [])

-- the path of the carriage where every arc is usable
abbrev pub anyway : Task → ℕ → ℕ → List ℕ
anyway t c d = best_path (act t) (actions t) (λ _ _. true) 0 (count t 0) c d

abbrev pub lit_task : Task
lit_task =
    task (black_one 2 0 (some 1) ∷ red_one 2 0 none ∷ red_one 3 0 (some 2) ∷ [])
    (action 1 (fact 0 0 ∷ fact 1 1 ∷ []) (fact 0 1 ∷ []) ∷ action 4 (fact 0 0 ∷ []) (fact 0 1 ∷ [])
    ∷ action 4 (fact 0 1 ∷ []) (fact 0 0 ∷ fact 1 1 ∷ [])
    ∷ action 2 (fact 0 1 ∷ fact 2 0 ∷ []) (fact 2 1 ∷ []) ∷ action 2 (fact 0 0 ∷ fact 2 1 ∷ []) (fact 2 2 ∷ []) ∷ [])

-- number, place, steps, the plan list of n entries afterwards, cost, real, steps that run
pub record Outcome : Type 0 where
  pub number : ℕ
  pub place : ℕ
  pub steps : ℕ
  pub list : List ℕ
  pub cost : ℕ
  pub real : Bool
  pub runs : ℕ

unfoldable pub outcome : Answer Planned → List ℕ → Outcome
outcome (refused n p) l = record { number = n; place = p; steps = 0; list = l; cost = 0; real = false; runs = 0 }
outcome (done x) l = record { number = 0; place = 0; steps = x.steps; list = l; cost = x.cost; real = x.real'; runs = x.runs }

unfoldable pub called : List ℕ → ℕ → Outcome
called s n = outcome (plan_call s n n n) (plan_list s n n n)

-- a plan: steps, plan list, cost, real, steps that run
abbrev pub plan : ℕ → List ℕ → ℕ → Bool → ℕ → Outcome
plan n l c b r = record { number = 0; place = 0; steps = n; list = l; cost = c; real = b; runs = r }

-- a refusal: number, place, plan list
abbrev pub refusal : ℕ → ℕ → List ℕ → Outcome
refusal n p l = record { number = n; place = p; steps = 0; list = l; cost = 0; real = false; runs = 0 }

-- the path searches that the planner tells, with lists of n entries
unfoldable pub sought : List ℕ → ℕ → ℕ
sought s n = searches_in (plan_call s n n n)

-- newest, 12.17: driving out lights the lamp, scanning needs it off and leaves it off
abbrev pub newest_task : Task
newest_task =
    task (black_one 2 0 (some 0) ∷ red_one 2 0 (some 1) ∷ red_one 2 0 none ∷ [])
    (action 4 (fact 0 0 ∷ []) (fact 0 1 ∷ fact 2 1 ∷ []) ∷ action 4 (fact 0 1 ∷ []) (fact 0 0 ∷ [])
    ∷ action 1 (fact 0 1 ∷ fact 1 0 ∷ []) (fact 1 1 ∷ []) ∷ action 1 (fact 0 1 ∷ fact 1 1 ∷ []) (fact 1 0 ∷ [])
    ∷ action 2 (fact 1 1 ∷ fact 2 0 ∷ []) (fact 2 0 ∷ []) ∷ [])

-- the newest values' call: number, place, steps that run red-black and for real, the list of n entries afterwards
pub record Desk : Type 0 where
  pub number : ℕ
  pub place : ℕ
  pub steps : ℕ
  pub runs : ℕ
  pub values : List ℕ

unfoldable pub desk_of : Answer Progress → List ℕ → Desk
desk_of (refused n p) l = record { number = n; place = p; steps = 0; runs = 0; values = l }
desk_of (done x) l = record { number = 0; place = 0; steps = x.steps; runs = x.runs; values = l }

unfoldable pub desk : List ℕ → List ℕ → ℕ → Desk
desk s l n = desk_of (newest_call s l n) (newest_list s l n)

abbrev pub shown : ℕ → ℕ → List ℕ → Desk
shown n r l = record { number = 0; place = 0; steps = n; runs = r; values = l }

abbrev pub turned_away : ℕ → ℕ → List ℕ → Desk
turned_away n p l = record { number = n; place = p; steps = 0; runs = 0; values = l }

-- The table: a row a line, its proof the refl at the same place below.
pub starred :
    (task_of two_shelves ≡ shelves 0 (drive_out ∷ drive_back ∷ pick_up ∷ put_down ∷ []))
    × (record_end two_shelves ≡ 278)
    × (length two_shelves ≡ 35)
    × (addable (task_of two_shelves) ≡ 3)
    × (black_product (task_of two_shelves) ≡ 2)
    × (forward_run (task_of two_shelves) ≡ 0 ∷ 2 ∷ 3 ∷ [])
    × (relaxed_plan (task_of two_shelves) ≡ 0 ∷ 2 ∷ 3 ∷ [])
    × (facts_reached (task_of two_shelves) ≡ 5)
    × (called two_shelves 6 ≡ plan 4 (0 ∷ 2 ∷ 1 ∷ 3 ∷ 65535 ∷ 65535 ∷ []) 10 true 4)
    × (called two_shelves 4 ≡ plan 4 (0 ∷ 2 ∷ 1 ∷ 3 ∷ []) 10 true 4)
    × (called two_shelves 3 ≡ refusal 11 3 (65535 ∷ 65535 ∷ 65535 ∷ []))
    × (task_of without_one ≡ shelves 0 (drive_out ∷ pick_up ∷ put_down ∷ []))
    × (called without_one 3 ≡ refusal 8 0 (65535 ∷ 65535 ∷ 65535 ∷ []))
    × (task_of without_two ≡ shelves 0 (drive_out ∷ drive_back ∷ put_down ∷ []))
    × (called without_two 3 ≡ refusal 10 3 (65535 ∷ 65535 ∷ 65535 ∷ []))
    × (task_of lamp_one ≡ lamp 1)
    × (called lamp_one 1 ≡ plan 0 (65535 ∷ []) 0 true 0)
    × (task_of lamp_two ≡ lamp 2)
    × (called lamp_two 1 ≡ refusal 8 0 (65535 ∷ []))
    × (task_of both_black ≡ task (black_one 2 0 none ∷ black_one 2 0 none ∷ []) (action 1 [] (fact 0 1 ∷ fact 1 1 ∷ []) ∷ []))
    × (called both_black 1 ≡ refusal 7 0 (65535 ∷ []))
    × (task_of initial_set ≡ task (black_one 2 0 none ∷ black_one 2 0 none ∷ []) (action 1 [] (fact 0 0 ∷ fact 1 1 ∷ []) ∷ []))
    × (called initial_set 1 ≡ refusal 7 0 (65535 ∷ []))
    × (called [] 2 ≡ refusal 1 0 (65535 ∷ 65535 ∷ []))
    × (task_of goal_met ≡ shelves 1 (drive_out ∷ drive_back ∷ pick_up ∷ put_down ∷ []))
    × (called goal_met 2 ≡ plan 0 (65535 ∷ 65535 ∷ []) 0 true 0)
    × (task_of tray ≡ tray_task)
    × (called tray 2 ≡ plan 2 (0 ∷ 1 ∷ []) 2 false 1)
    × (called variables64 1 ≡ plan 0 (65535 ∷ []) 0 true 0)
    × (called variables65 1 ≡ refusal 3 4 (65535 ∷ []))
    × (task_of door ≡ door_task)
    × (called door 8 ≡ plan 7 (0 ∷ 2 ∷ 1 ∷ 4 ∷ 0 ∷ 3 ∷ 1 ∷ 65535 ∷ []) 14 true 7)
    × (task_of lit_return ≡ lit_task)
    × (forward_run (task_of lit_return) ≡ 1 ∷ 3 ∷ 4 ∷ [])
    × (relaxed_plan (task_of lit_return) ≡ 1 ∷ 3 ∷ 4 ∷ [])
    × (called lit_return 6 ≡ plan 5 (1 ∷ 3 ∷ 2 ∷ 4 ∷ 0 ∷ 65535 ∷ []) 13 true 5)
    × (task_of repeated_variable ≡ task (red_one 2 0 none ∷ []) (action 1 [] (fact 0 0 ∷ fact 0 1 ∷ []) ∷ []))
    × (called repeated_variable 1 ≡ refusal 5 78 (65535 ∷ []))
    × (task_of newest ≡ newest_task)
    × (called newest 4 ≡ plan 3 (0 ∷ 2 ∷ 1 ∷ 65535 ∷ []) 9 true 3)
    × (task_of with_four ≡ shelves 0 (drive_out ∷ drive_back ∷ pick_up ∷ put_down ∷ drive_out_for3 ∷ []))
    × (record_end with_four ≡ 326)
    × (forward_run (task_of with_four) ≡ 4 ∷ 2 ∷ 3 ∷ [])
    × (relaxed_plan (task_of with_four) ≡ 4 ∷ 2 ∷ 3 ∷ [])
    × (called with_four 5 ≡ plan 4 (4 ∷ 2 ∷ 1 ∷ 3 ∷ 65535 ∷ []) 9 true 4)
    × (forward_run (task_of tray) ≡ 0 ∷ 1 ∷ [])
    × (facts_reached (task_of with_four) ≡ 5)
    × (task_of gate ≡ gate_task)
    × (record_end gate ≡ 394)
    × (relaxed_plan (task_of gate) ≡ 0 ∷ 2 ∷ 4 ∷ [])
    × (called gate 8 ≡ plan 7 (0 ∷ 2 ∷ 1 ∷ 4 ∷ 0 ∷ 3 ∷ 1 ∷ 65535 ∷ []) 14 true 7)
    × (task_of detour ≡ detour_task)
    × (record_end detour ≡ 410)
    × (relaxed_plan (task_of detour) ≡ 1 ∷ 2 ∷ 6 ∷ [])
    × (called detour 6 ≡ plan 5 (1 ∷ 2 ∷ 6 ∷ 3 ∷ 4 ∷ 65535 ∷ []) 5 true 5)
    × (task_of ring ≡ ring_task)
    × (record_end ring ≡ 506)
    × (relaxed_plan (task_of ring) ≡ 0 ∷ 1 ∷ 2 ∷ 8 ∷ [])
    × (called ring 8 ≡ plan 5 (0 ∷ 1 ∷ 2 ∷ 8 ∷ 6 ∷ 65535 ∷ 65535 ∷ 65535 ∷ []) 1 true 5)
    × (anyway ring_task 2 0 ≡ 2 ∷ 6 ∷ [])
    × (task_of diamond ≡ diamond_task)
    × (record_end diamond ≡ 602)
    × (relaxed_plan (task_of diamond) ≡ 0 ∷ 1 ∷ 2 ∷ 10 ∷ [])
    × (called diamond 7 ≡ plan 6 (0 ∷ 1 ∷ 2 ∷ 10 ∷ 3 ∷ 6 ∷ 65535 ∷ []) 7 true 6)
    × (anyway diamond_task 0 3 ≡ 0 ∷ 1 ∷ 2 ∷ [])
    × (task_of lift ≡ lift_task)
    × (record_end lift ≡ 310)
    × (relaxed_plan (task_of lift) ≡ 0 ∷ 2 ∷ 4 ∷ [])
    × (called lift 8 ≡ plan 6 (0 ∷ 2 ∷ 3 ∷ 4 ∷ 2 ∷ 1 ∷ 65535 ∷ 65535 ∷ []) 11 true 6)
    × (black_count (task_of lift) ≡ 2)
    × (sought lift 6 ≡ 6)
    × (sought lift 5 ≡ 0)
    × (sought two_shelves 4 ≡ 1)
    × (sought without_two 3 ≡ 0)
    × (sought goal_met 0 ≡ 0)
    × (sought door 7 ≡ 5)
    × (searches crew_task (0 ∷ 2 ∷ []) ≡ 5)
    × (leb (searches crew_task (0 ∷ 2 ∷ [])) (search_bound crew_task (0 ∷ 2 ∷ [])) ≡ true)
    × (search_bound (task_of lift) (0 ∷ 2 ∷ 4 ∷ []) ≡ 24)
    × (plan_marks two_shelves 6 6 6 ≡ 0 ∷ 0 ∷ 1 ∷ 0 ∷ 0 ∷ 0 ∷ [])
    × (plan_marks lift 8 8 8 ≡ 0 ∷ 0 ∷ 1 ∷ 0 ∷ 1 ∷ 1 ∷ 0 ∷ 0 ∷ [])
    × (plan_marks gate 7 7 7 ≡ 0 ∷ 0 ∷ 1 ∷ 0 ∷ 1 ∷ 1 ∷ 1 ∷ [])
    × (plan_marks tray 2 2 3 ≡ 0 ∷ 0 ∷ 0 ∷ [])
    × (plan_marks lift 6 6 5 ≡ 0 ∷ 0 ∷ 0 ∷ 0 ∷ 0 ∷ [])
    × (outcome (plan_call lift 6 6 5) (plan_list lift 6 6 5) ≡ refusal 11 5 (65535 ∷ 65535 ∷ 65535 ∷ 65535 ∷ 65535 ∷ 65535 ∷ []))
    × (unmarked (0 ∷ 2 ∷ 3 ∷ 4 ∷ 2 ∷ 1 ∷ []) (0 ∷ 0 ∷ 1 ∷ 0 ∷ 1 ∷ 1 ∷ []) ≡ 0 ∷ 2 ∷ 4 ∷ [])
    × (repair_marks lift (0 ∷ 2 ∷ 4 ∷ []) 6 6 7 ≡ 0 ∷ 0 ∷ 1 ∷ 0 ∷ 1 ∷ 1 ∷ 0 ∷ [])
    × (outcome (repair_call lift (0 ∷ 2 ∷ 4 ∷ []) 6 6 7) (repair_list lift (0 ∷ 2 ∷ 4 ∷ []) 6 6 7) ≡ plan 6 (0 ∷ 2 ∷ 3 ∷ 4 ∷ 2 ∷ 1 ∷ []) 11 true 6)
    × (repair_marks lift (0 ∷ 4 ∷ []) 6 6 2 ≡ 0 ∷ 0 ∷ [])
    × (desk newest [] 3 ≡ shown 0 0 (0 ∷ 0 ∷ 0 ∷ []))
    × (desk newest (0 ∷ 2 ∷ 1 ∷ []) 3 ≡ shown 3 3 (0 ∷ 1 ∷ 1 ∷ []))
    × (desk newest (0 ∷ 2 ∷ 3 ∷ []) 3 ≡ shown 3 3 (1 ∷ 0 ∷ 1 ∷ []))
    × (desk newest (0 ∷ 2 ∷ 3 ∷ 4 ∷ 0 ∷ 1 ∷ []) 5 ≡ shown 4 3 (1 ∷ 0 ∷ 0 ∷ 65535 ∷ 65535 ∷ []))
    × (desk newest (0 ∷ 2 ∷ 3 ∷ 4 ∷ 0 ∷ 1 ∷ []) 2 ≡ turned_away 11 2 (65535 ∷ 65535 ∷ []))
    × (desk newest (1 ∷ 5 ∷ []) 2 ≡ turned_away 9 1 (65535 ∷ 65535 ∷ []))
    × (desk newest (replicate 32769 9) 2 ≡ turned_away 13 32768 (65535 ∷ 65535 ∷ []))
    × (desk [] (7 ∷ []) 1 ≡ turned_away 1 0 (65535 ∷ []))
    × (desk two_shelves [] 2 ≡ shown 0 0 (0 ∷ 1 ∷ []))
    × (desk tray (0 ∷ 1 ∷ []) 4 ≡ shown 2 1 (1 ∷ 1 ∷ 1 ∷ 65535 ∷ []))
    × (desk both_black (0 ∷ []) 2 ≡ shown 1 1 (1 ∷ 1 ∷ []))
unfolding times share black_product black_count search_bound searches_in sought check and_then in_order answer bit_at bits_at holds_field some_below one_if tally first total refuse_at reach variables_in
    actions_in goal_of variable_at variables_at facts_at preconditions_in effects_in effects_from action_end action_at actions_at actions_end task_of field_check
    header_checks goal_fits variable_checks variables_checks count_in fact_checks facts_checks action_checks actions_checks ends_at record_end record_checks
    record_check has touches look holds step variable act count black initial goals_from goals run_by runs_by steps_by all_below is_plan size facts_in cost_by
    adds cheapest forward addable forward_run forward_end reaches_goals facts_reached first_achiever is reached_needed keep relaxed_plan without reduced_effects causal_arc black_arc on_cycle
    cyclic fits leaves or_zero target arc_from outside return_by lacks_return unreturned acyclic_check return_check known union ever_after usable_arc
    smaller better choose best_below behind best_in best_path toward after pass fill ready clients_first order value black_met moves asked_for pass_searches
    fill_searches move_searches stage_steps all_steps all_searches stages_from stages repaired searches stage_marks all_marks marks unmarked lent lent_bytes
    relaxed_fault relaxed_check repair_call repair_list repair_marks plan_marks
    capacity capacity_of room_check goals_check planned plan_of plan_call plan_list called outcome red_pairs variables64 variables65 two_shelves without_one without_two lamp_one lamp_two
    both_black initial_set goal_met tray door lit_return repeated_variable with_four gate detour ring diamond lift initial_values newer tracked track red_black_steps stops_in tabulate newest_values progress
    newest_call newest_list length_check not_below entries_check desk_of desk newest
starred = (
  refl,
  refl,
  refl,
  refl,
  refl,
  refl,
  refl,
  refl,
  refl,
  refl,
  refl,
  refl,
  refl,
  refl,
  refl,
  refl,
  refl,
  refl,
  refl,
  refl,
  refl,
  refl,
  refl,
  refl,
  refl,
  refl,
  refl,
  refl,
  refl,
  refl,
  refl,
  refl,
  refl,
  refl,
  refl,
  refl,
  refl,
  refl,
  refl,
  refl,
  refl,
  refl,
  refl,
  refl,
  refl,
  refl,
  refl,
  refl,
  refl,
  refl,
  refl,
  refl,
  refl,
  refl,
  refl,
  refl,
  refl,
  refl,
  refl,
  refl,
  refl,
  refl,
  refl,
  refl,
  refl,
  refl,
  refl,
  refl,
  refl,
  refl,
  refl,
  refl,
  refl,
  refl,
  refl,
  refl,
  refl,
  refl,
  refl,
  refl,
  refl,
  refl,
  refl,
  refl,
  refl,
  refl,
  refl,
  refl,
  refl,
  refl,
  refl,
  refl,
  refl,
  refl,
  refl,
  refl,
  refl,
  refl,
  refl,
  refl,
)
