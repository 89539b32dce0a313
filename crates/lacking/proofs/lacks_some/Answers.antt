use Rattle.std.proofs.Common.{◌∙◌, refl}
use Rattle.laws.proofs.Painting.{black_inside}
use Rattle.lacking.proofs.Arcs.{trying_hit, trying_end}
use Rattle.lacking.proofs.lacks_some.Goals as goal

pub count-n-requires : goal.count-n-requires
count-n-requires c = let p = c.requires.0 in (p.loaded, black_inside _ _ p.on)

pub returns-then-not-arc_returned : goal.returns-then-not-arc_returned
returns-then-not-arc_returned c =
    trying_hit _ _ _ _ _ c.loop-d.invariant _ c.arc_returned.ensures c.count-n.result c.loop-d-test.true c.if-not-arc_returned.true ∙ rw c.count-n.ensures refl

pub returns : goal.returns
returns c = trying_end _ _ _ _ _ c.count-n.result c.loop-d.invariant c.loop-d-test.false ∙ rw c.count-n.ensures refl
