-- An entry of the list, or none.
use Rattle.pack.proofs.Fields.{entry_in, entry_behind}
use Rattle.pack.proofs.entry_at.Goals as goal

pub returns-then-list-i-clause-value : goal.returns-then-list-i-clause-value
returns-then-list-i-clause-value g c = entry_behind g.row.MARK _ _ _ c.if-list-i.true

pub returns-clause-value : goal.returns-clause-value
returns-clause-value g c = entry_in g.row.MARK _ _ _ _ _ c.if-list-i.false c.mark_at.ensures.0 c.from.ensures
