use Rattle.std.proofs.Common.{◌∙◌}
use Rattle.returns.proofs.Marks.{marked_here, unmarked_here, marked_end}
use Rattle.returns.proofs.first_unmarked.Goals as goal

pub returns-then-marks-from : goal.returns-then-marks-from
returns-then-marks-from c =
    let k = c.loop-k-test.true in
    (k, rw c.from.ensures at c.if-marks-from.true, c.loop-k.invariant ∙ unmarked_here _ _ _ _ k _ c.from.ensures c.if-marks-from.true)

pub loop-k-preserved : goal.loop-k-preserved
loop-k-preserved c = c.loop-k.invariant ∙ marked_here _ _ _ _ c.loop-k-test.true _ c.from.ensures c.if-marks-from.false

pub returns : goal.returns
returns c = c.loop-k.invariant ∙ marked_end _ _ _ c.loop-k-test.false
