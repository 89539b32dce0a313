use mathlib.Core.Path.{refl}
use Rattle.sets.specs.Sets.{in_set}
use Rattle.sets.proofs.member.Goals as goal

pub returns : goal.returns
unfolding in_set
returns c = refl
