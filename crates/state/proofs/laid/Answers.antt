use borrow.Author.Rules.{rules}
use mathlib.Core.Path.{◌∙◌}
use native.Mathlib.Omega.{arith}
use Rattle.state.proofs.Choosing.{filled_turn, over_at, over_end}
use Rattle.state.proofs.laid.Goals as goal

pub loop-k-preserved : goal.loop-k-preserved
loop-k-preserved c = filled_turn _ _ _ c.loop-k.invariant (omega arith) _ (c.choose.ensures ∙ over_at _ _ _)

pub returns : goal.returns
returns c = over_end _ _ _ _ (search rules) c.loop-k.invariant (omega arith)
