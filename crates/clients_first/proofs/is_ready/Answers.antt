use mathlib.Core.Path.{sym, ◌∙◌}
use Rattle.clients_first.proofs.Clients.{ready_of}
use borrow.Author.Rules.{rules}
use Rattle.clients_first.proofs.is_ready.Goals as goal

pub returns-then-member : goal.returns-then-member
returns-then-member c = let a = c.args in ready_of a.row a.left a.v (search rules) (search rules) (sym c.member.ensures ∙ c.if-member.true)
