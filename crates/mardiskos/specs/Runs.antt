-- What C reads of an answer of forward run, relaxed plan and newest values: its code (9.4), and the result's numbers, 0 after a refusal (9.3).
use Rattle.std.specs.Prelude.{ℕ, ◌+◌, ◌*◌}
use Rattle.planning.specs.Basics.{Answer, refused, done}
use Rattle.planning.specs.Newest.{Progress}
use Rattle.planning.specs.Calls.{Forward}
use Rattle.mardiskos.specs.declared.runs.ForwardRun.{ForwardRun}
use Rattle.mardiskos.specs.declared.runs.RelaxedPlan.{RelaxedPlan}
use Rattle.mardiskos.specs.declared.runs.NewestValues.{NewestValues}

abbrev pub forward_run_of : Answer Forward → ForwardRun
forward_run_of (refused n p) = record { code = 32 * p + n; steps = 0; reached = 0 }
forward_run_of (done x) = record { code = 0; steps = x.steps; reached = x.reached }

abbrev pub relaxed_plan_of : Answer ℕ → RelaxedPlan
relaxed_plan_of (refused n p) = record { code = 32 * p + n; steps = 0 }
relaxed_plan_of (done n) = record { code = 0; steps = n }

abbrev pub newest_values_of : Answer Progress → NewestValues
newest_values_of (refused n p) = record { code = 32 * p + n; steps = 0; runs = 0 }
newest_values_of (done x) = record { code = 0; steps = x.steps; runs = x.runs }
