use mathlib.Core.Path.{sym, ◌∙◌}
use Rattle.task.proofs.Reading.{task_in_actions}
use Rattle.task.proofs.actions.Goals as goal

pub returns : goal.returns
returns c = c.from.ensures ∙ sym (task_in_actions _)
