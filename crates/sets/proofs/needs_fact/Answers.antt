use native.Mathlib.Omega.{arith}
use mathlib.Core.Path.{◌∙◌}
use Rattle.laws.proofs.Formed.{pre_func}
use Rattle.sets.proofs.Asking.{asked_has}
use Rattle.sets.proofs.needs_fact.Goals as goal

pub returns : goal.returns
returns c = c.eq.ensures ∙ asked_has _ (pre_func _ c.requires.0.formed c.args.i) _ _ _ (omega arith) c.need.ensures
