use mathlib.Core.Path.{sym, ◌∙◌}
use Rattle.task.proofs.Reading.{order_length}
use Rattle.task.proofs.ordered.Goals as goal

pub returns : goal.returns
returns c = c.from.ensures ∙ sym (order_length _ c.requires)
