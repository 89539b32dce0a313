use native.Mathlib.Omega.{arith}
use Rattle.graph.proofs.Rows.{drawing_start, drawing_turn, drawing_end}
use Rattle.graph.proofs.graph.Goals as goal

pub loop-i-init : goal.loop-i-init
loop-i-init c = drawing_start _ _

pub loop-i-preserved : goal.loop-i-preserved
loop-i-preserved c = drawing_turn _ _ _ _ c.loop-i.invariant (omega arith) _ c.requires.1 _ c.add_action.ensures

pub returns : goal.returns
returns c = drawing_end _ _ _ _ c.loop-i.invariant (omega arith) c.actions-n.ensures
