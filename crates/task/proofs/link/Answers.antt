use mathlib.Core.Path.{refl}
use Rattle.task.specs.Links.{linked}
use Rattle.task.proofs.link.Goals as goal

pub returns : goal.returns
unfolding linked
returns c = rw c.from-heads.ensures refl
