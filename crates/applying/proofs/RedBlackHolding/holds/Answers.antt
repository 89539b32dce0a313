-- Of a variable that is in the set the newest value alone counts, of another each one that it has had.
use mathlib.Core.Path.{sym, ◌∙◌}
use Rattle.sets.specs.Sets.{mode_of}
use Rattle.applying.proofs.RedBlackSteps.{red_black_black, red_black_red}
use Rattle.applying.proofs.RedBlackHolding.holds.Goals as goal

pub returns-then-member : goal.returns-then-member
unfolding mode_of
returns-then-member c = c.holds.ensures ∙ sym (red_black_black _ _ _ _ _ (sym c.member.ensures ∙ c.if-member.true))

pub returns-else-member : goal.returns-else-member
unfolding mode_of
returns-else-member c = c.holds-else-member.ensures ∙ sym (red_black_red _ _ _ _ _ (sym c.member.ensures ∙ c.if-member.false))
