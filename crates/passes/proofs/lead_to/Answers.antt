use Rattle.std.proofs.Common.{sym}
use Rattle.task.specs.Task.{task_in}
use Rattle.sets.specs.Sets.{sets_of}
use Rattle.paths.specs.Paths.{paths_of}
use Rattle.paths.proofs.Walking.{path_none}
use Rattle.asking.proofs.Putting.{lead_none, lead_same, lead_some}
use Rattle.passes.proofs.lead_to.Goals as goal

pub returns-in-Some-clause-put : goal.returns-in-Some-clause-put
returns-in-Some-clause-put c =
    let a = c.args in
    rw c.in-Some.is (lead_some (paths_of (task_in a.arcs.now.task.now) (sets_of a.arcs.now.ever.now) a.v) a.c c.in-Some.d a.list.now _ a.at c.path.result c.path.ensures.put)

pub returns-in_default-clause-put : goal.returns-in_default-clause-put
returns-in_default-clause-put c =
    let a = c.args in
    let t = task_in a.arcs.now.task.now in
    let K = sets_of a.arcs.now.ever.now in
    rw c.in-Some.is (lead_same (paths_of t K a.v) a.c c.in-Some.d (path_none t K a.v a.c c.in-Some.d (sym c.if-d-c.false)) a.list.now a.at c.requires.c_bound.2)

pub returns-in_default-2-clause-put : goal.returns-in_default-2-clause-put
returns-in_default-2-clause-put c =
    let a = c.args in
    rw c.in_default.is (lead_none (paths_of (task_in a.arcs.now.task.now) (sets_of a.arcs.now.ever.now) a.v) a.c a.list.now a.at c.requires.c_bound.2)
