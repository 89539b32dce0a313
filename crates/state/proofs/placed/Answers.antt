use borrow.Author.Rules.{rules}
use mathlib.Core.Path.{◌∙◌}
use native.Mathlib.Omega.{arith}
use Rattle.state.proofs.Choosing.{filled_turn, placed_at, placed_end}
use Rattle.state.proofs.placed.Goals as goal

pub loop-k-preserved : goal.loop-k-preserved
loop-k-preserved c =
    let I = c.loop-k.invariant in (
      omega (arith, I.0),
      filled_turn _ _ _ I.1 (omega arith) _ (c.choose.ensures ∙ placed_at c.args.values _ _ _ _ (search rules) (omega (arith, c.requires)) I.0),
    )

pub returns : goal.returns
returns c = placed_end c.args.values _ _ _ _ (search rules) c.loop-k.invariant.1 (omega arith)
