use mathlib.Core.Path.{refl, ◌∙◌}
use Rattle.sets.proofs.Slices.{asked_here, asked_later, asked_end}
use Rattle.sets.proofs.asked.Goals as goal

pub returns-then-f-v : goal.returns-then-f-v
returns-then-f-v c = rw c.loop-f.invariant (asked_here _ _ c.loop-f-test.true _ _ c.from-f.ensures c.if-f-v.true)

pub loop-f-preserved : goal.loop-f-preserved
loop-f-preserved c = c.loop-f.invariant ∙ asked_later _ _ c.loop-f-test.true _ _ c.from-f.ensures c.if-f-v.false

pub returns : goal.returns
returns c = rw (c.loop-f.invariant, asked_end _ _ c.loop-f-test.false) refl
