-- 9.2: the planner's answer as the definitions have it.
use Rattle.std.specs.Prelude.{ℕ, Result, Ok, Err}
use Rattle.planning.specs.Basics.{Answer}
use Rattle.planning.specs.Calls.{Planned}
use Rattle.answers.specs.Answers.{answer_by}
use Rattle.answers.specs.declared.Refusal.{Refusal}
use Rattle.answers.specs.declared.Plan.{Plan}

abbrev pub planned_of : Plan → Planned
planned_of p = record { steps = p.steps; cost = p.cost; real' = p.real; runs = p.runs; searches' = p.searches }

abbrev pub answer_of : Result Plan Refusal → Answer Planned
answer_of = answer_by planned_of

-- the steps, 0 after a refusal
abbrev pub steps_of : Result Plan Refusal → ℕ
steps_of (Ok p) = p.steps
steps_of (Err f) = 0
