use Rattle.sets.specs.Sets.{sets_of}
use Rattle.sets.proofs.holds.Goals as goal

pub returns : goal.returns
unfolding sets_of
returns c = c.member.ensures
