use Rattle.cycles.proofs.Ways.{closing_start, closing_turn}
use borrow.Author.Rules.{rules}
use native.Mathlib.Omega.{arith}
use Rattle.cycles.proofs.closure.Goals as goal

pub loop-k-init : goal.loop-k-init
loop-k-init c = closing_start _ _ (search rules) c.requires.1

pub loop-k-preserved : goal.loop-k-preserved
loop-k-preserved c = closing_turn _ _ _ _ c.loop-k.invariant (omega arith) _ c.join_at.ensures
