use Rattle.std.proofs.Common.{refl}
use Rattle.paths.specs.Paths.{slot}
use Rattle.paths.proofs.slot.Goals as goal

pub returns : goal.returns
unfolding slot
returns c = refl
