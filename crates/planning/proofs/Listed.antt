-- Listings byte for byte: that of 10.4, of two shelves with action 4 and without action 2, and of the tray. antt computes them.
use mathlib.Core.Path.{◌≡◌, refl}
use mathlib.Core.List.{[], ◌∷◌}
use Rattle.planning.specs.Basics.{times, check, and_then, in_order, answer, bit_at, bits_at, holds_field, some_below, one_if, tally, first, total, refuse_at, reach}
use Rattle.planning.specs.Record.{variables_in, actions_in, goal_of, variable_at, variables_at, facts_at, preconditions_in, effects_in, effects_from, action_end}
use Rattle.planning.specs.Record.{action_at, actions_at, actions_end, task_of, field_check, header_checks, goal_fits, variable_checks, variables_checks}
use Rattle.planning.specs.Record.{count_in, fact_checks, facts_checks, action_checks, actions_checks, ends_at, record_end, record_checks, record_check}
use Rattle.planning.specs.Runs.{has, touches, look, holds, step, variable, act, count, black, initial, goals_from, goals, run_by, runs_by, steps_by, all_below}
use Rattle.planning.specs.Runs.{is_plan, size, facts_in, cost_by}
use Rattle.planning.specs.Relaxed.{adds, cheapest, forward, addable, forward_run, forward_end, reaches_goals, facts_reached, first_achiever, is, reached_needed, keep, relaxed_plan}
use Rattle.planning.specs.Painting.{without, reduced_effects, causal_arc, black_arc, on_cycle, cyclic, fits, leaves, or_zero, target, arc_from, outside, return_by, lacks_return}
use Rattle.planning.specs.Painting.{unreturned, acyclic_check, return_check}
use Rattle.planning.specs.Repair.{known, union, ever_after, usable_arc, smaller, better, choose, best_below, behind, best_in, best_path, toward, after, pass, fill, ready, clients_first}
use Rattle.planning.specs.Repair.{order, value, black_met, moves, asked_for, pass_searches, fill_searches, move_searches, stage_steps, all_steps, all_searches, stages_from, stages, repaired, searches}
use Rattle.planning.specs.Calls.{capacity, capacity_of, room_check, goals_check, planned, plan_of, plan_call, runnable}
use Rattle.planning.specs.Listing.{digits_upto, decimal, numbers, line, verdict_word, listing, listing_of}
use Rattle.planning.proofs.Acceptance.{two_shelves, with_four, without_two, tray}

-- the second has the lines relaxed 3 4 2 3 and plan 4 9 4 2 1 3, the third is refused 10 3; the last ends with the line unreal 1
pub listed :
    (listing_of two_shelves
    ≡ (114 ∷ 101 ∷ 97 ∷ 99 ∷ 104 ∷ 101 ∷ 100 ∷ 32 ∷ 53 ∷ 10
    ∷ 114 ∷ 101 ∷ 108 ∷ 97 ∷ 120 ∷ 101 ∷ 100 ∷ 32 ∷ 51 ∷ 32 ∷ 48 ∷ 32 ∷ 50 ∷ 32 ∷ 51 ∷ 10
    ∷ 112 ∷ 108 ∷ 97 ∷ 110 ∷ 32 ∷ 52 ∷ 32 ∷ 49 ∷ 48 ∷ 32 ∷ 48 ∷ 32 ∷ 50 ∷ 32 ∷ 49 ∷ 32 ∷ 51 ∷ 10
    ∷ 114 ∷ 101 ∷ 97 ∷ 108 ∷ 32 ∷ 52 ∷ 10 ∷ []))
    × (listing_of with_four
    ≡ (114 ∷ 101 ∷ 97 ∷ 99 ∷ 104 ∷ 101 ∷ 100 ∷ 32 ∷ 53 ∷ 10
    ∷ 114 ∷ 101 ∷ 108 ∷ 97 ∷ 120 ∷ 101 ∷ 100 ∷ 32 ∷ 51 ∷ 32 ∷ 52 ∷ 32 ∷ 50 ∷ 32 ∷ 51 ∷ 10
    ∷ 112 ∷ 108 ∷ 97 ∷ 110 ∷ 32 ∷ 52 ∷ 32 ∷ 57 ∷ 32 ∷ 52 ∷ 32 ∷ 50 ∷ 32 ∷ 49 ∷ 32 ∷ 51 ∷ 10
    ∷ 114 ∷ 101 ∷ 97 ∷ 108 ∷ 32 ∷ 52 ∷ 10 ∷ []))
    × (listing_of without_two ≡ (114 ∷ 101 ∷ 102 ∷ 117 ∷ 115 ∷ 101 ∷ 100 ∷ 32 ∷ 49 ∷ 48 ∷ 32 ∷ 51 ∷ 10 ∷ []))
    × (listing_of tray
    ≡ (114 ∷ 101 ∷ 97 ∷ 99 ∷ 104 ∷ 101 ∷ 100 ∷ 32 ∷ 54 ∷ 10
    ∷ 114 ∷ 101 ∷ 108 ∷ 97 ∷ 120 ∷ 101 ∷ 100 ∷ 32 ∷ 50 ∷ 32 ∷ 48 ∷ 32 ∷ 49 ∷ 10
    ∷ 112 ∷ 108 ∷ 97 ∷ 110 ∷ 32 ∷ 50 ∷ 32 ∷ 50 ∷ 32 ∷ 48 ∷ 32 ∷ 49 ∷ 10
    ∷ 117 ∷ 110 ∷ 114 ∷ 101 ∷ 97 ∷ 108 ∷ 32 ∷ 49 ∷ 10 ∷ []))
unfolding listing_of listing digits_upto decimal numbers line verdict_word times check and_then in_order answer bit_at bits_at holds_field some_below one_if
    tally first total refuse_at reach variables_in actions_in goal_of variable_at variables_at facts_at preconditions_in effects_in effects_from action_end
    action_at actions_at actions_end task_of field_check header_checks goal_fits variable_checks variables_checks count_in fact_checks facts_checks
    action_checks actions_checks ends_at record_end record_checks record_check has touches look holds step variable act count black initial goals_from
    goals run_by runs_by steps_by all_below is_plan size facts_in cost_by adds cheapest forward addable forward_run forward_end reaches_goals facts_reached
    first_achiever is reached_needed keep relaxed_plan without reduced_effects causal_arc black_arc on_cycle cyclic fits leaves or_zero target arc_from outside return_by
    lacks_return unreturned acyclic_check return_check known union ever_after usable_arc smaller better choose best_below behind best_in best_path toward after pass fill ready
    clients_first order value black_met moves asked_for pass_searches fill_searches move_searches stage_steps all_steps all_searches
    stages_from stages repaired searches capacity capacity_of room_check goals_check planned plan_of plan_call runnable
    two_shelves with_four without_two tray
listed = (refl, refl, refl, refl)
