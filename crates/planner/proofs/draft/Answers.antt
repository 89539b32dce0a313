-- What the repair holds is what is drafted.
use native.Mathlib.Omega.{arith}
use lib.ListN.{length}
use Rattle.planning.specs.Runs.{relaxed}
use Rattle.laws.proofs.Sizes.{capacity_of_le}
use Rattle.task.specs.Task.{task_in}
use Rattle.planner.proofs.Drafts.{plan_entries, drafted_repair}
use Rattle.planner.proofs.draft.Goals as goal

pub repair-requires : goal.repair-requires
repair-requires c =
    record { prepared = c.requires.0; entries = plan_entries (task_in c.args.task.now) relaxed c.args.list.now c.requires.1; is_red_black_plan = c.requires.1 }

pub returns : goal.returns
returns c =
    let a = c.args in
    let room = capacity_of_le (length a.plan.now) (length a.work.now) (length a.marks.now) in
    drafted_repair _ _ _ _ _ (omega (arith, room.0, c.repair.auto.plan)) (omega (arith, room.2, c.repair.auto.marks)) _ c.repair.ensures
