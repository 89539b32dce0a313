-- What C reads of the planner's answer (9.2): its code (9.4), and the result's numbers, 0 after a refusal (9.3).
use Rattle.std.specs.Prelude.{◌+◌, ◌*◌, ◌/◌, ◌%◌, true, false, eqb}
use Rattle.planning.specs.Basics.{Answer, refused, done}
use Rattle.planning.specs.Calls.{Planned}
use Rattle.codes.specs.declared.PlanResult.{PlanResult}

abbrev pub plan_result_of : Answer Planned → PlanResult
plan_result_of (refused n p) = record { code = 32 * p + n; steps = 0; cost = 0; runs = 0; searches = 0; real = false }
plan_result_of (done x) = record { code = 0; steps = x.steps; cost = x.cost; runs = x.runs; searches = x.searches'; real = x.real' }

-- the answer that C reads off a result
unfoldable pub answer_in : PlanResult → Answer Planned
answer_in r = elim (eqb r.code 0) [
  | true ↦ done (record { steps = r.steps; cost = r.cost; real' = r.real; runs = r.runs; searches' = r.searches })
  | false ↦ refused (r.code % 32) (r.code / 32)
]
