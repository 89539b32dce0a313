use mathlib.Core.Path.{◌∙◌}
use Rattle.task.proofs.Reading.{init_is}
use borrow.Author.Rules.{rules}
use Rattle.task.proofs.initial.Goals as goal

pub returns : goal.returns
returns c = c.from.ensures ∙ init_is _ _ (search rules)
