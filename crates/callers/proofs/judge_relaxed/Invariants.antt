-- What is left of the list is judged from the present state (`Going`); an action whose effects are held leaves that state as it is.
use Rattle.planning.specs.Runs.{relaxed}
use Rattle.task.specs.Task.{task_in}
use Rattle.sets.specs.Sets.{sets_of}
use Rattle.callers.proofs.Going.{Going}
use Rattle.callers.proofs.judge_relaxed.Given as goal

abbrev pub invariant-loop-k : goal.invariant-loop-k
invariant-loop-k l = Going (task_in l.task) relaxed l.list (sets_of l.s.sets) l.k
