-- After k steps the values held and the newest ones show the state of the red-black run, and the steps counted run for real (`Following`). A
-- step that counts applies red-black as well.
use Rattle.task.specs.Task.{task_in}
use Rattle.sets.specs.Sets.{sets_of, values_of, Known}
use Rattle.execution.proofs.Tracing.{Following}
use Rattle.execution.proofs.follow.Given as goal

abbrev pub invariant-loop-k : goal.invariant-loop-k
invariant-loop-k l = record {
  following : Following (task_in l.task) l.list (sets_of l.s.sets) (values_of l.s.newest.values) l.k l.runs;
  known : Known (task_in l.task) (sets_of l.s.sets) l.known;
}
