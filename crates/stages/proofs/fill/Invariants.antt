-- The moves so far and the passes of the variables left in the order are all the passes, and so are their searches. A pass that does not fit is no longer than
-- the whole, as passes only insert.
use Rattle.task.specs.Task.{facts_of, task_in}
use Rattle.task.specs.Links.{order_in}
use Rattle.sets.specs.Sets.{sets_of}
use Rattle.stages.specs.Stages.{shown_by}
use Rattle.stages.proofs.Filling.{Filling}
use Rattle.stages.proofs.fill.Given as goal

abbrev pub invariant-loop-p : goal.invariant-loop-p
invariant-loop-p l =
    let task = l.arcs.task.now in
    let ever = l.arcs.ever.now in
    Filling (task_in task) (sets_of ever) (shown_by task ever l.newest) (order_in task) (facts_of l.wanted) l.initial.plan l.plan l.memo l.end l.searches l.p
