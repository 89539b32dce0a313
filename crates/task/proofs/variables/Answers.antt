use mathlib.Core.Path.{sym, ◌∙◌}
use Rattle.task.proofs.Reading.{task_in_variables}
use Rattle.task.proofs.variables.Goals as goal

pub returns : goal.returns
returns c = c.from.ensures ∙ sym (task_in_variables _)
