use Rattle.std.proofs.Common.{◌∙◌}
use Rattle.asking.proofs.Putting.{after_is}
use Rattle.asking.proofs.next_value.Goals as goal

pub returns : goal.returns
returns c = c.unwrap_or.ensures ∙ after_is c.args.c c.args.d
