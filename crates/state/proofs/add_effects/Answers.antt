use mathlib.Core.Path.{refl}
use Rattle.sets.proofs.Slices.{putting_turn, putting_end}
use Rattle.state.proofs.add_effects.Goals as goal

pub loop-f-preserved : goal.loop-f-preserved
loop-f-preserved c = putting_turn _ _ _ _ c.loop-f.invariant c.loop-f-test.true _ _ _ _ c.from-f.ensures refl refl c.single.ensures

pub returns : goal.returns
returns c = putting_end _ _ _ _ c.loop-f.invariant c.loop-f-test.false _ c.requires.0 _ c.requires.1 c.effects-effects.ensures
