use Rattle.std.proofs.Common.{arith}
use Rattle.returns.proofs.Returns.{asked_changes}
use Rattle.returns.proofs.moves_to.Goals as goal

pub returns-then-eq : goal.returns-then-eq
returns-then-eq c = λ q. (omega (arith, c.actions.ensures), asked_changes _ c.requires.formed _ _ _ _ (omega arith) c.target.ensures c.if-eq.ensures _ c.needs_fact.ensures q)
