use Rattle.std.proofs.Common.{ap, ◌∙◌}
use mir.Val.{bool_byte}
use Rattle.asking.proofs.Putting.{asked_for_is}
use Rattle.asking.proofs.asked_for.Goals as goal

pub returns : goal.returns
returns c = c.from.ensures ∙ ap bool_byte c.is_some.ensures ∙ asked_for_is c.args.d
