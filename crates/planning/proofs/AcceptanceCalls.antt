-- The calls beside the planner, computed: codes of the check, forward run, relaxed plan, judging, running part, sheets.
use Prim.Native.Nat.{ℕ}
use mathlib.Core.Path.{◌≡◌, refl}
use mathlib.Core.Bool.{Bool, true, false}
use mathlib.Core.List.{List, [], ◌∷◌}
use mathlib.Core.Option.{none}
use Rattle.planning.specs.Basics.{Answer, refused, done, times, refuse, check, shifted, and_then, in_order, answer, code, bit_at, bits_at, holds_field, some_below, one_if}
use Rattle.planning.specs.Basics.{tally, first, total, refuse_at, reach}
use Rattle.planning.specs.Record.{variables_in, actions_in, goal_of, variable_at, variables_at, facts_at, preconditions_in}
use Rattle.planning.specs.Record.{effects_in, effects_from, action_end, action_at, actions_at, actions_end, task_of, field_check, header_checks, goal_fits}
use Rattle.planning.specs.Record.{variable_checks, variables_checks, count_in, fact_checks, facts_checks, action_checks, actions_checks, ends_at}
use Rattle.planning.specs.Record.{record_end, record_checks, record_check}
use Rattle.planning.specs.Runs.{has, touches, look, holds, step, variable, act, count, black, initial, goals_from, goals, run_by, runs_by, steps_by}
use Rattle.planning.specs.Runs.{all_below, is_plan, size, facts_in, cost_by, Judged, Judgement, judged, judgement}
use Rattle.planning.specs.Relaxed.{adds, cheapest, forward, addable, forward_run, forward_end, reaches_goals, facts_reached, first_achiever, is, reached_needed, keep, relaxed_plan}
use Rattle.planning.specs.Painting.{without, reduced_effects, causal_arc, black_arc, on_cycle, cyclic, fits, leaves, or_zero, target, arc_from, outside, return_by, lacks_return}
use Rattle.planning.specs.Painting.{unreturned, acyclic_check, return_check}
use Rattle.planning.specs.Repair.{known, union, ever_after, usable_arc, smaller, better, choose, best_below, behind, best_in, best_path, toward, after, pass, fill, ready, clients_first}
use Rattle.planning.specs.Repair.{order, value, black_met, moves, asked_for, pass_searches, fill_searches, move_searches, stage_steps, all_steps, all_searches, stages_from, stages, repaired, searches}
use Rattle.planning.specs.Sheet.{Sheet, bits_of, mark_width, edition_of, mark_of, step_bits, sheet_bits, number_in, packed, sheet_end, sheet_size, sheet_bytes}
use Rattle.planning.specs.Sheet.{steps_at, marks_at, edition_in, steps_in, sheet_of}
use Rattle.planning.specs.Sheet.{sheet_field, steps_checks, sheet_checks, sheet_check}
use Rattle.planning.specs.Calls.{lent, lent_bytes, capacity, capacity_of, room_check, goals_check, length_check, not_below, entries_check, check_call, check_code}
use Rattle.planning.specs.Calls.{judge_call, Forward, forward_call, forward_list, relax_call, relax_list, planned, plan_of, plan_call, plan_list, runnable}
use Rattle.planning.specs.Calls.{write_call, write_bytes, Read, read_call, read_list, read_marks}
use Rattle.planning.proofs.Acceptance.{two_shelves, without_two, tray, red_pairs, variables65}

-- records of one red variable of 2 values, initial 0, without a goal: its goal value, at bit 36, is 1; the padding, behind bit 41, is 1; an
-- action sets value 2, at bit 72
unfoldable pub goal_value_alone : List ℕ
goal_value_alone = 16 ∷ 32 ∷ 0 ∷ 16 ∷ 0 ∷ 64 ∷ []

unfoldable pub padding_one : List ℕ
padding_one = 16 ∷ 32 ∷ 0 ∷ 16 ∷ 0 ∷ 1 ∷ []

unfoldable pub value_at_count : List ℕ
value_at_count = 16 ∷ 32 ∷ 4 ∷ 16 ∷ 0 ∷ 0 ∷ 0 ∷ 64 ∷ 64 ∷ 8 ∷ []

-- 9.4 and 2.9: the check; 9.9: behind the 35 bytes of two shelves
pub checked :
    (check_code [] ≡ 1)
    × (check_code variables65 ≡ 131)
    × (check_code two_shelves ≡ 0)
    × (check_call goal_value_alone ≡ refused 4 36)
    × (check_call value_at_count ≡ refused 4 72)
    × (check_call padding_one ≡ refused 6 42)
    × (shifted 35 (record_check goal_value_alone) ≡ refuse 4 316)
    × (shifted 35 (record_check two_shelves) ≡ none)
unfolding code check shifted and_then in_order answer bit_at bits_at holds_field variables_in actions_in goal_of variable_at variables_at facts_at preconditions_in
    effects_in effects_from action_end action_at actions_at actions_end task_of field_check header_checks goal_fits variable_checks variables_checks count_in
    fact_checks facts_checks action_checks actions_checks ends_at record_end record_checks record_check check_call check_code red_pairs variables65 two_shelves
    goal_value_alone value_at_count padding_one
checked = (refl, refl, refl, refl, refl, refl, refl, refl)

-- steps and facts reached; under each semantics the steps that run and whether the list is a plan
abbrev pub ran : ℕ → ℕ → Answer Forward
ran n r = done (record { steps = n; reached = r })

abbrev pub under : ℕ → Bool → Judged
under n b = record { steps = n; plan = b }

abbrev pub judged_as : Judged → Judged → Judged → Answer Judgement
judged_as x y z = done (record { relaxed' = x; red_black = y; real' = z })

-- the running part of what the planner returns with n entries lent
abbrev pub running : List ℕ → ℕ → List ℕ
running s n = runnable (plan_call s n n n) (plan_list s n n n)

-- 9.1 and 7.8: forward run, relaxed plan, judging, running part
pub told :
    (forward_call two_shelves 4 ≡ ran 3 5)
    × (forward_list two_shelves 4 ≡ 0 ∷ 2 ∷ 3 ∷ 65535 ∷ [])
    × (forward_call two_shelves 2 ≡ refused 11 2)
    × (relax_call two_shelves 4 ≡ done 3)
    × (relax_list two_shelves 4 ≡ 0 ∷ 2 ∷ 3 ∷ 65535 ∷ [])
    × (relax_call without_two 4 ≡ refused 10 3)
    × (judge_call tray (0 ∷ 1 ∷ []) ≡ judged_as (under 2 true) (under 2 true) (under 1 false))
    × (judge_call tray (0 ∷ 2 ∷ []) ≡ refused 9 1)
    × (running two_shelves 5 ≡ 0 ∷ 2 ∷ 1 ∷ 3 ∷ [])
    × (running tray 2 ≡ 0 ∷ [])
    × (running without_two 3 ≡ [])
unfolding times check and_then in_order answer bit_at bits_at holds_field some_below one_if tally first total refuse_at reach variables_in
    actions_in goal_of variable_at variables_at facts_at preconditions_in effects_in effects_from action_end action_at actions_at actions_end task_of field_check
    header_checks goal_fits variable_checks variables_checks count_in fact_checks facts_checks action_checks actions_checks ends_at record_end record_checks
    record_check has touches look holds step variable act count black initial goals_from goals run_by runs_by steps_by all_below is_plan size facts_in cost_by
    judged judgement adds cheapest forward addable forward_run forward_end reaches_goals facts_reached first_achiever is reached_needed keep relaxed_plan without reduced_effects causal_arc
    black_arc on_cycle cyclic fits leaves or_zero target arc_from outside return_by lacks_return unreturned acyclic_check return_check known union ever_after
    usable_arc smaller better choose best_below behind best_in best_path toward after pass fill ready clients_first order value black_met moves asked_for pass_searches
    fill_searches move_searches stage_steps all_steps all_searches stages_from stages searches
    repaired lent capacity capacity_of room_check goals_check length_check not_below entries_check judge_call forward_call forward_list relax_call relax_list
    planned plan_of plan_call plan_list runnable two_shelves without_two tray
told = (refl, refl, refl, refl, refl, refl, refl, refl, refl, refl, refl)

-- what a sheet of edition 1 is given, without marks, and what reading answers: steps or their count, cost, verdict
abbrev pub sheet : List ℕ → ℕ → Bool → Sheet
sheet l c b = record { edition = 1; steps = l; marks = []; cost = c; real = b }

abbrev pub stored : ℕ → ℕ → Bool → Answer Read
stored n c b = done (record { steps = n; cost = c; edition = 1; real' = b })

-- the plans of two shelves and of the tray, an empty plan of cost 65,536
abbrev pub shelves_plan : Sheet
shelves_plan = sheet (0 ∷ 2 ∷ 1 ∷ 3 ∷ []) 10 true

abbrev pub tray_plan : Sheet
tray_plan = sheet (0 ∷ 1 ∷ []) 2 false

abbrev pub costly_plan : Sheet
costly_plan = sheet [] 65536 true

-- their sheets, and that of the empty plan of 12.10; the three without the costly one are those of 12.16
abbrev pub shelves_sheet : List ℕ
shelves_sheet = 24 ∷ 0 ∷ 32 ∷ 0 ∷ 0 ∷ 0 ∷ 80 ∷ 0 ∷ 1 ∷ 0 ∷ 32 ∷ 24 ∷ []

abbrev pub tray_sheet : List ℕ
tray_sheet = 16 ∷ 0 ∷ 16 ∷ 0 ∷ 0 ∷ 0 ∷ 16 ∷ 0 ∷ 0 ∷ 128 ∷ []

abbrev pub costly_sheet : List ℕ
costly_sheet = 24 ∷ 0 ∷ 0 ∷ 0 ∷ 8 ∷ 0 ∷ 0 ∷ []

abbrev pub empty_sheet : List ℕ
empty_sheet = 24 ∷ 0 ∷ 0 ∷ 0 ∷ 0 ∷ 0 ∷ 0 ∷ []

-- 8.3: written, the first with a byte more lent than it has; an area that is too short, an entry 1,024
pub written :
    (write_call shelves_plan 13 ≡ done 12)
    × (write_bytes shelves_plan 13 ≡ 24 ∷ 0 ∷ 32 ∷ 0 ∷ 0 ∷ 0 ∷ 80 ∷ 0 ∷ 1 ∷ 0 ∷ 32 ∷ 24 ∷ 0 ∷ [])
    × (write_bytes tray_plan 10 ≡ tray_sheet)
    × (write_bytes (sheet [] 0 true) 7 ≡ empty_sheet)
    × (write_bytes costly_plan 7 ≡ costly_sheet)
    × (write_call tray_plan 9 ≡ refused 11 9)
    × (write_call (sheet (0 ∷ 1024 ∷ []) 2 false) 10 ≡ refused 13 1)
    × (write_bytes (sheet (1024 ∷ []) 0 false) 2 ≡ 0 ∷ 0 ∷ [])
unfolding one_if check and_then in_order answer refuse_at length_check not_below room_check bits_of mark_width edition_of mark_of step_bits sheet_bits number_in
    packed sheet_end sheet_size sheet_bytes lent_bytes write_call write_bytes
written = (refl, refl, refl, refl, refl, refl, refl, refl)

-- 8.4: read back; edition 3, padding 1, no byte behind the count of steps, one entry too few lent
pub read_back :
    (read_call shelves_sheet 5 5 ≡ stored 4 10 true)
    × (read_list shelves_sheet 5 5 ≡ 0 ∷ 2 ∷ 1 ∷ 3 ∷ 65535 ∷ [])
    × (read_call tray_sheet 2 2 ≡ stored 2 2 false)
    × (read_list tray_sheet 2 2 ≡ 0 ∷ 1 ∷ [])
    × (read_call empty_sheet 0 0 ≡ stored 0 0 true)
    × (read_call costly_sheet 0 0 ≡ stored 0 65536 true)
    × (read_call (56 ∷ 0 ∷ 0 ∷ 0 ∷ 0 ∷ 0 ∷ 0 ∷ []) 0 0 ≡ refused 12 0)
    × (read_call (24 ∷ 0 ∷ 0 ∷ 0 ∷ 0 ∷ 0 ∷ 1 ∷ []) 0 0 ≡ refused 12 53)
    × (read_call (24 ∷ 0 ∷ 32 ∷ []) 4 4 ≡ refused 12 21)
    × (read_call tray_sheet 1 2 ≡ refused 11 1)
    × (read_list tray_sheet 1 2 ≡ 65535 ∷ [])
unfolding one_if check and_then in_order answer bit_at bits_at holds_field ends_at capacity room_check mark_width sheet_end steps_at marks_at edition_in steps_in
    sheet_of sheet_field steps_checks sheet_checks sheet_check lent read_call read_list
read_back = (refl, refl, refl, refl, refl, refl, refl, refl, refl, refl, refl)

-- a sheet with marks, given an edition
abbrev pub marked : ℕ → List ℕ → List ℕ → ℕ → Bool → Sheet
marked e l ms c b = record { edition = e; steps = l; marks = ms; cost = c; real = b }

abbrev pub stored_marked : ℕ → ℕ → Bool → Answer Read
stored_marked n c b = done (record { steps = n; cost = c; edition = 2; real' = b })

-- the plans of two shelves and of lift in edition 2, of 12.24
abbrev pub shelves_marked : List ℕ
shelves_marked = 40 ∷ 0 ∷ 32 ∷ 0 ∷ 0 ∷ 0 ∷ 80 ∷ 0 ∷ 0 ∷ 80 ∷ 4 ∷ 1 ∷ 128 ∷ []

abbrev pub lift_marked : List ℕ
lift_marked = 40 ∷ 0 ∷ 48 ∷ 0 ∷ 0 ∷ 0 ∷ 88 ∷ 0 ∷ 0 ∷ 80 ∷ 12 ∷ 2 ∷ 64 ∷ 40 ∷ 2 ∷ []

-- 8.6: written, with the byte 2, with a byte too few and one too many; for the numbers 0 and 17, and without marks for 1; an area one byte too
-- short; the longest sheets
pub written_marked :
    (write_call (marked 2 (0 ∷ 2 ∷ 1 ∷ 3 ∷ []) (0 ∷ 0 ∷ 1 ∷ 0 ∷ []) 10 true) 14 ≡ done 13)
    × (write_bytes (marked 2 (0 ∷ 2 ∷ 1 ∷ 3 ∷ []) (0 ∷ 0 ∷ 1 ∷ 0 ∷ []) 10 true) 13 ≡ shelves_marked)
    × (write_bytes (marked 2 (0 ∷ 2 ∷ 3 ∷ 4 ∷ 2 ∷ 1 ∷ []) (0 ∷ 0 ∷ 1 ∷ 0 ∷ 1 ∷ 1 ∷ []) 11 true) 15 ≡ lift_marked)
    × (write_bytes (marked 0 (0 ∷ 2 ∷ 1 ∷ 3 ∷ []) (0 ∷ 0 ∷ 2 ∷ []) 10 true) 13 ≡ shelves_marked)
    × (write_bytes (marked 17 (0 ∷ 2 ∷ 1 ∷ 3 ∷ []) (0 ∷ 0 ∷ 128 ∷ 0 ∷ 1 ∷ []) 10 true) 13 ≡ shelves_marked)
    × (write_bytes (marked 1 (0 ∷ 2 ∷ 1 ∷ 3 ∷ []) (0 ∷ 0 ∷ 1 ∷ 0 ∷ []) 10 true) 12 ≡ shelves_sheet)
    × (write_call (marked 2 (0 ∷ 2 ∷ 1 ∷ 3 ∷ []) [] 10 true) 12 ≡ refused 11 12)
    × (sheet_size 1 32768 ≡ 40967)
    × (sheet_size 2 32768 ≡ 45063)
unfolding one_if check and_then in_order answer refuse_at length_check not_below room_check bits_of mark_width edition_of mark_of step_bits sheet_bits number_in
    packed sheet_end sheet_size sheet_bytes lent_bytes write_call write_bytes
written_marked = (refl, refl, refl, refl, refl, refl, refl, refl, refl)

-- 8.4 and 7.10: read back, with a byte more than there are steps; edition 1 shows no marks, and its mark area counts; an empty sheet; a step cut
-- behind its mark, a mark that is not there, padding 1
pub read_marked :
    (read_call shelves_marked 4 5 ≡ stored_marked 4 10 true)
    × (read_list shelves_marked 4 5 ≡ 0 ∷ 2 ∷ 1 ∷ 3 ∷ [])
    × (read_marks shelves_marked 4 5 ≡ 0 ∷ 0 ∷ 1 ∷ 0 ∷ 0 ∷ [])
    × (read_marks lift_marked 6 6 ≡ 0 ∷ 0 ∷ 1 ∷ 0 ∷ 1 ∷ 1 ∷ [])
    × (read_call shelves_marked 4 3 ≡ refused 11 3)
    × (read_marks shelves_marked 4 3 ≡ 0 ∷ 0 ∷ 0 ∷ [])
    × (read_marks shelves_sheet 5 5 ≡ 0 ∷ 0 ∷ 0 ∷ 0 ∷ 0 ∷ [])
    × (read_call shelves_sheet 5 3 ≡ refused 11 3)
    × (read_call (40 ∷ 0 ∷ 0 ∷ 0 ∷ 0 ∷ 0 ∷ 0 ∷ []) 0 0 ≡ stored_marked 0 0 true)
    × (read_call (32 ∷ 0 ∷ 8 ∷ 0 ∷ 0 ∷ 0 ∷ 4 ∷ []) 1 1 ≡ refused 12 54)
    × (read_call (32 ∷ 0 ∷ 16 ∷ 0 ∷ 0 ∷ 0 ∷ 4 ∷ 5 ∷ []) 2 2 ≡ refused 12 64)
    × (read_call (32 ∷ 0 ∷ 16 ∷ 0 ∷ 0 ∷ 0 ∷ 4 ∷ 5 ∷ 0 ∷ 193 ∷ []) 2 2 ≡ refused 12 75)
unfolding one_if check and_then in_order answer bit_at bits_at holds_field ends_at capacity room_check mark_width sheet_end steps_at marks_at edition_in steps_in
    sheet_of sheet_field steps_checks sheet_checks sheet_check lent lent_bytes read_call read_list read_marks
read_marked = (refl, refl, refl, refl, refl, refl, refl, refl, refl, refl, refl, refl)
