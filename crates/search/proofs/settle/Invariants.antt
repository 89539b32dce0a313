-- Settled are the values outside the set rest, x is the nearest of those that have a label and are not settled, and there is one
-- unsettled value less with each turn. Where there is none each label stands, and where the search stops those of the settled ones do.
use Rattle.planning.specs.Basics.{tally}
use Rattle.task.specs.Task.{task_in}
use Rattle.sets.specs.Sets.{in_set, sets_of}
use Rattle.labels.specs.Labels.{Nearest}
use Rattle.search.proofs.Settling.{Settling}
use Rattle.search.proofs.settle.Given as goal

abbrev pub invariant-loop-near : goal.invariant-loop-near
invariant-loop-near l = Settling (task_in l.arcs.task.now) (sets_of l.arcs.ever.now) l.v l.d l.labels l.rest l.front × Nearest l.labels l.front l.near

abbrev pub decreases-loop-near : goal.decreases-loop-near
decreases-loop-near l = tally 64 (in_set l.rest)
