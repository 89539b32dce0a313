use mathlib.Core.Path.{sym, ◌∙◌}
use Rattle.graph.proofs.Rows.{joined_row, kept_row}
use Rattle.graph.proofs.joined.Goals as goal

pub returns-then-member : goal.returns-then-member
returns-then-member c = let a = c.args in joined_row a.row a.targets a.u a.paint _ c.single-own.ensures (sym c.member.ensures ∙ c.if-member.true)

pub returns-else-member : goal.returns-else-member
returns-else-member c = let a = c.args in kept_row a.row a.targets a.u a.paint (sym c.member.ensures ∙ c.if-member.false)
