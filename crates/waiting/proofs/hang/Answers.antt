use mathlib.Core.Path.{refl}
use Rattle.waiting.specs.Waiting.{hung}
use Rattle.waiting.proofs.hang.Goals as goal

pub returns : goal.returns
unfolding hung
returns c = rw c.from.ensures refl
