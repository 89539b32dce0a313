use Rattle.record.proofs.Laws.{there, action_stops, actions_start, actions_turn, actions_done}
use native.Mathlib.Omega.{arith}
use Rattle.record.proofs.check_actions.Goals as goal

pub loop-init : goal.loop-init
loop-init c = actions_start _ _ _ (omega arith)

pub returns-in_err-at : goal.returns-in_err-at
returns-in_err-at c = action_stops _ _ _ _ _ c.loop.invariant _ _ c.from_residual.ensures.1 _ _ (omega arith) c.in_err-at.ensures

pub loop-preserved : goal.loop-preserved
loop-preserved c = actions_turn _ _ _ _ _ c.loop.invariant _ (omega arith) (there _ _ _ c.in_ok-at.ensures)

pub returns : goal.returns
returns c = actions_done _ _ _ _ _ c.loop.invariant (omega arith)
