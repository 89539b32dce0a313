use Rattle.blanking.proofs.Filled.{list_finished, area_finished}
use Rattle.blanking.proofs.finish.Goals as goal

pub returns-clause-plan_after : goal.returns-clause-plan_after
returns-clause-plan_after c = list_finished c.args.answer _ c.args.plan.now _ c.steps_of-steps.ensures c.blank_from.ensures

pub returns-clause-marks_after : goal.returns-clause-marks_after
returns-clause-marks_after c = area_finished c.args.answer _ c.args.marks.now _ c.steps_of-steps.ensures c.clear_from.ensures
