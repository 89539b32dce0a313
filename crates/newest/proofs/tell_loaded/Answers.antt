-- A list refused is refused; of one that passed the rest of the checks say.
use mathlib.Core.Path.{sym, subst}
use mathlib.Core.List.{[], ◌∷◌}
use Rattle.planning.specs.Newest.{progress, newest_values}
use Rattle.planning.specs.Basics.{Check}
use Rattle.planning.specs.Calls.{length_check, entries_check, room_check}
use Rattle.planning.specs.Runs.{variables}
use Rattle.task.specs.Task.{task_in}
use Rattle.answers.proofs.Stages.{passed, handed_on, stage_passes, stage_stops}
use Rattle.entries.proofs.Lists.{list_ready}
use Rattle.newest.specs.Answers.{Shows}
use Rattle.newest.proofs.tell_loaded.Goals as goal

pub tell_ready-requires : goal.tell_ready-requires
tell_ready-requires c =
    let L = list_ready _ _ (passed _ _ _ _ _ c.in_default.is c.check_list.ensures).0 in
    record { loaded = c.requires; short = L.0; entries = L.1 }

pub returns-in_default : goal.returns-in_default
returns-in_default c =
    let t = task_in c.args.task.now in
    let l = c.args.list.now in
    let e = stage_passes (length_check l ∷ entries_check t l ∷ []) (room_check (variables t) c.args.room ∷ []) (passed _ _ _ _ _ c.in_default.is c.check_list.ensures).0 in
    subst (λ (k : Check). Shows k (progress t l) (newest_values t l) c.args.room c.tell_ready.result) (sym e) c.tell_ready.ensures

pub returns : goal.returns
returns c =
    let t = task_in c.args.task.now in
    let l = c.args.list.now in
    stage_stops (length_check l ∷ entries_check t l ∷ []) (room_check (variables t) c.args.room ∷ []) _ _ (handed_on _ _ _ _ _ c.in-Err.is c.check_list.ensures)
