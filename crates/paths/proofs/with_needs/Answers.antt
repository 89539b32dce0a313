use Rattle.std.proofs.Common.{sym, ◌∙◌}
use Rattle.paths.proofs.Needing.{joined, joined_end}
use Rattle.paths.proofs.with_needs.Goals as goal

pub loop-f-preserved : goal.loop-f-preserved
loop-f-preserved c = λ v. c.loop-f.invariant v ∙ joined _ _ c.loop-f-test.true _ c.from.ensures _ _ v c.single-m.ensures

pub returns : goal.returns
returns c = λ v. rw (← c.preconditions-f-items.ensures.stated) (sym (c.loop-f.invariant v ∙ joined_end _ _ c.loop-f-test.false _ v))
