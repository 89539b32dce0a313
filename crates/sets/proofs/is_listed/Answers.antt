use Rattle.sets.specs.Sets.{listed}
use Rattle.sets.proofs.is_listed.Goals as goal

pub returns : goal.returns
unfolding listed
returns c = c.member.ensures
