use Rattle.std.proofs.Common.{◌∙◌}
use Rattle.lacking.proofs.Arcs.{asked_one, asked_any}
use Rattle.lacking.proofs.lacks_marked.Goals as goal

pub returns-in_default-clause-answer : goal.returns-in_default-clause-answer
returns-in_default-clause-answer c = c.lacks_anywhere.ensures.answer ∙ asked_any _ _ _ _ _ c.in_default.ensures

pub returns-clause-answer : goal.returns-clause-answer
returns-clause-answer c = asked_one _ _ _ _ _ _ c.in-Some.ensures _ c.arc_returned.ensures
