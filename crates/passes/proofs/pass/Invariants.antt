-- What is written, and the pass over the unread entries from the present value on, are the whole pass: before each entry the path to
-- the value that it needs, then the entry; at the end the path to the wanted value. Where a path does not fit before its entry, the list
-- written, the path and the entries that are unread are more than the list holds. The searches so far and those for the unread entries
-- are all.
use lib.ListN.{drop}
use Rattle.planning.specs.Runs.{act}
use Rattle.planning.specs.Repair.{pass_searches}
use Rattle.task.specs.Task.{facts_of, task_in}
use Rattle.sets.specs.Sets.{sets_of}
use Rattle.passes.specs.Passes.{served}
use Rattle.passes.proofs.Passing.{Passing, Tally}
use Rattle.passes.proofs.pass.Given as goal

abbrev pub invariant-loop-j : goal.invariant-loop-j
invariant-loop-j l =
    let t = task_in l.arcs.task.now in
    let K = sets_of l.arcs.ever.now in
    let w = facts_of l.want in
    let old = l.initial.plan in
    Passing t K l.v w (served t K l.f (drop l.at old) w) old l.plan l.memo l.c l.e l.j × Tally t l.v w (pass_searches (act t) l.v (drop l.at old) w) l.plan l.searches l.j
