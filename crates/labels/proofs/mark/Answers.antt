-- At first all are to come; a member that comes is noted; in the end none is to come.
use Rattle.std.proofs.Common.{ap, rules}
use Rattle.labels.proofs.Marking.{marking_start, marking_turn, marking_end}
use Rattle.labels.proofs.mark.Goals as goal

pub loop-c-init : goal.loop-c-init
loop-c-init c = marking_start _ _ _ _ (search rules) (ap (λ s. s.rest) c.into_iter-c-iterator.ensures.into_iter_gives)

pub loop-c-preserved : goal.loop-c-preserved
loop-c-preserved c =
    let n = c.in-Some.ensures.steps in
    marking_turn _ _ _ _ _ c.loop-c.invariant _ _ _ n.0 n.1 n.2 cc

pub returns-clause-by_index : goal.returns-clause-by_index
returns-clause-by_index c = marking_end _ _ _ _ _ c.loop-c.invariant c.in-None.ensures.steps
