use Rattle.lacking.proofs.Marked.{unmarked_start}
use Rattle.painting.proofs.lowest_in.Goals as goal

pub lowest_by-requires : goal.lowest_by-requires
lowest_by-requires g c = (c.requires.0, c.requires.1, unmarked_start _ _ c.requires.2)
