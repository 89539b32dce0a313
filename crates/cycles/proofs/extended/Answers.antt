use mathlib.Core.Path.{sym, ◌∙◌}
use Rattle.cycles.proofs.Ways.{extended_row, same_row}
use Rattle.cycles.proofs.extended.Goals as goal

pub returns-then-member : goal.returns-then-member
returns-then-member c = let a = c.args in extended_row a.row a.k a.onward (sym c.member.ensures ∙ c.if-member.true)

pub returns-else-member : goal.returns-else-member
returns-else-member c = let a = c.args in same_row a.row a.k a.onward (sym c.member.ensures ∙ c.if-member.false)
