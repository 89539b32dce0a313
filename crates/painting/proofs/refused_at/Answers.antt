use Rattle.std.proofs.Common.{refl}
use Rattle.planning.specs.Basics.{refuse_at}
use Rattle.painting.proofs.refused_at.Goals as goal

pub returns-in_default : goal.returns-in_default
unfolding refuse_at
returns-in_default c = rw c.in_default.is refl

pub returns : goal.returns
unfolding refuse_at
returns c = rw c.in-Some.is refl
