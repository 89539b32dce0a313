use Rattle.achievers.proofs.Achievers.{noting_turn, noting_end}
use Rattle.achievers.proofs.note.Goals as goal
use native.Mathlib.Omega.{arith}

pub loop-f-preserved : goal.loop-f-preserved
loop-f-preserved c =
    noting_turn _ _ _ _ _ c.loop-f.invariant _ c.loop-f-test.true c.from.ensures (omega (arith, c.from.ensures, c.effects-f-items.ensures.small c.loop-f.f-index c.loop-f-test.true))

pub returns : goal.returns
returns c = noting_end _ _ _ _ _ c.loop-f.invariant c.loop-f-test.false _ c.effects-f-items.ensures.stated
