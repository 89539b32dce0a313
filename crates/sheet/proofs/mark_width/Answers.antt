-- The edition is 1 or it is not.
use mathlib.Core.Path.{◌∙◌}
use native.Mathlib.Omega.{arith}
use Rattle.sheet.proofs.Widths.{width_is, mark_width_le}
use Rattle.sheet.proofs.mark_width.Goals as goal

pub returns : goal.returns
returns c = let e = c.from.ensures ∙ width_is c.args.edition in (e, omega (arith, e, mark_width_le c.args.edition))
