-- Actions known to be plain stay plain behind any step; one that joins has its effects held there, and its preconditions are black.
use Rattle.counts.proofs.Plainly.{plain_step}
use Rattle.counts.proofs.effects_held.Goals as goal

pub returns-then-is_listed-clause-plain : goal.returns-then-is_listed-clause-plain
returns-then-is_listed-clause-plain c = plain_step _ _ c.requires.2 c.args.i

pub returns-clause-plain : goal.returns-clause-plain
returns-clause-plain c = plain_step _ _ c.requires.2 c.args.i
