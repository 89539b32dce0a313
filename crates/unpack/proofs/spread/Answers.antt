-- The pairs of four entries, the first pair in the lower half.
use mathlib.Core.Path.{◌∙◌}
use native.Mathlib.Omega.{arith}
use Rattle.unpack.proofs.Words.{pairs_are}
use Rattle.unpack.proofs.spread.Goals as goal

pub overflow_add-word : goal.overflow_add-word
overflow_add-word c = let p = pairs_are _ c.requires.0 _ c.requires.1 in omega arith

pub returns : goal.returns
returns c =
    let p = pairs_are _ c.requires.0 _ c.requires.1 in
    let l = c.lanes.ensures in
    (l.0 ∙ p.1, l.1 ∙ p.2, l.2 ∙ p.3, l.3 ∙ p.4)
