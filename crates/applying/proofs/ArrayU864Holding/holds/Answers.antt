use mathlib.Core.Path.{refl}
use Rattle.planning.specs.Newest.{alone}
use Rattle.sets.specs.Sets.{values_of}
use Rattle.applying.proofs.ArrayU864Holding.holds.Goals as goal

pub returns : goal.returns
unfolding alone values_of
returns c = refl
