use Rattle.laws.proofs.Painting.{black_inside}
use Rattle.lacking.proofs.lacks_anywhere.Goals as goal

pub count-requires : goal.count-requires
count-requires c = let p = c.requires.0 in (p.loaded, black_inside _ _ p.on)
