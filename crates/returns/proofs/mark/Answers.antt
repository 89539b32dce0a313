use Rattle.returns.proofs.Marks.{marking_turn, marking_end}
use Rattle.returns.proofs.mark.Goals as goal

pub loop-g-preserved : goal.loop-g-preserved
loop-g-preserved c = marking_turn _ _ _ _ _ _ c.loop-g.invariant c.loop-g-test.true _ _ c.from.ensures c.place_of.ensures

pub returns : goal.returns
returns c = marking_end _ _ _ _ _ _ c.loop-g.invariant c.loop-g-test.false
