-- Of the members that came the one at r has the least label.
use Rattle.labels.proofs.Seeking.{Seeking}
use Rattle.labels.proofs.nearest.Given as goal

abbrev pub invariant-loop-c : goal.invariant-loop-c
invariant-loop-c l = Seeking l.labels l.front l.r l.least l.c-iterator.rest
