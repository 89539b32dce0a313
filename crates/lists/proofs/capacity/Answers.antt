use Rattle.planning.specs.Calls.{capacity}
use Rattle.lists.proofs.capacity.Goals as goal

pub returns : goal.returns
unfolding capacity
returns c = c.min.ensures
