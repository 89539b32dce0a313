use Rattle.lacking.proofs.Keeping.{ready_start}
use Rattle.painting.proofs.Checks.{scanning_start, scanning_hit, scanning_end}
use Rattle.painting.proofs.lowest_by.Goals as goal

pub loop-i-init : goal.loop-i-init
loop-i-init c = scanning_start _ _ c.actions-n.ensures _ _ (ready_start _ _ c.requires.2)

pub returns-then-is_lacking : goal.returns-then-is_lacking
returns-then-is_lacking c = scanning_hit _ _ c.actions-n.ensures _ _ _ c.loop-i.invariant _ c.is_lacking.ensures.answer c.loop-i-test.true c.if-is_lacking.true

pub returns : goal.returns
returns c = scanning_end _ _ c.actions-n.ensures _ _ _ c.loop-i.invariant c.loop-i-test.false
