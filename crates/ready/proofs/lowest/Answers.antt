use Rattle.ready.proofs.Bits.{lowest_none, lowest_found}
use Rattle.ready.proofs.lowest.Goals as goal

pub returns-then-filled-eq0 : goal.returns-then-filled-eq0
returns-then-filled-eq0 c = lowest_none _ c.requires c.if-filled-eq0.true

pub returns : goal.returns
returns c = lowest_found _ c.requires _ _ c.lowest_in-w.ensures c.lowest_in.ensures
