use mathlib.Core.Path.{◌∙◌}
use Rattle.mardiskos.proofs.Laws.{code_accepted, code_refused}
use Rattle.mardiskos.proofs.mardiskos_check.Goals as goal

pub returns-in_default : goal.returns-in_default
returns-in_default c = code_accepted _ _ _ c.in_default.is c.check.ensures

pub returns : goal.returns
returns c = (rw c.from.ensures at c.code_of.ensures) ∙ code_refused _ _ _ c.in-Err.is c.check.ensures
