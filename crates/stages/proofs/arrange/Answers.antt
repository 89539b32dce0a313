use Rattle.stages.proofs.Arranging.{part_wanted}
use Rattle.stages.proofs.arrange.Goals as goal

pub moves-requires-clause-prepared : goal.moves-requires-clause-prepared
moves-requires-clause-prepared c =
    let p = c.requires.prepared in
    (p.0, part_wanted _ p.0.loaded c.from.result c.preconditions-needs.result.now c.preconditions-needs.ensures.stated, p.2, p.3)
