-- The set is empty where no member comes at first; in the end none is to come.
use Rattle.labels.proofs.Seeking.{seeking_none, seeking_end}
use Rattle.labels.proofs.nearest.Goals as goal

pub returns-in_err-r : goal.returns-in_err-r
returns-in_err-r c = rw c.from_residual.ensures (seeking_none c.args.labels.now _ c.in_err-r.ensures.steps)

pub returns : goal.returns
returns c = seeking_end _ _ _ _ _ c.loop-c.invariant c.in-None.ensures.steps
