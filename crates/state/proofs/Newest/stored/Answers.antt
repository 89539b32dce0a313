use mathlib.Core.Path.{refl}
use Rattle.state.proofs.Renewing.{renewing_turn, renewing_end}
use Rattle.state.proofs.Newest.stored.Goals as goal

pub loop-f-preserved : goal.loop-f-preserved
loop-f-preserved c = renewing_turn _ _ _ _ c.loop-f.invariant c.loop-f-test.true _ _ c.from-f.ensures refl

pub returns : goal.returns
returns c = renewing_end _ _ _ _ c.loop-f.invariant c.loop-f-test.false _ c.requires.0 _ c.requires.1 c.effects-effects.ensures
