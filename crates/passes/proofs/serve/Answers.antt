-- Where no entry needs the variable, the pass is the list and the path behind it; else it is the pass over the same list at the end.
use Rattle.std.proofs.Common.{◌≡◌, List, ℕ, ◌/◌, ◌%◌, true, take, sym, ◌∙◌}
use Rattle.std.specs.Prelude.{Option, None, Some}
use Rattle.planning.specs.Runs.{act}
use Rattle.planning.specs.Repair.{toward, pass_searches}
use Rattle.task.specs.Task.{facts_of, task_in}
use Rattle.sets.specs.Sets.{sets_of}
use Rattle.paths.specs.Paths.{paths_of}
use Rattle.paths.proofs.Walking.{path_none}
use Rattle.asking.specs.Asking.{Put}
use Rattle.asking.proofs.Putting.{lead_none, lead_same, lead_some}
use Rattle.passes.specs.Passes.{served_in, unasked}
use Rattle.passes.proofs.Serving.{served_behind, served_counts}
use Rattle.task.specs.Goals.{option_of}
use Rattle.passes.proofs.serve.Goals as goal
use Rattle.passes.proofs.serve.Goals.{After-asked_for-searches}

idle_there : (k : After-asked_for-searches) → let a = k.args in unasked (task_in a.arcs.now.task.now) (a.f / 64) (take a.e a.plan.now) ≡ true
idle_there k = sym k.idle.ensures ∙ k.if-idle.true

put_behind : (k : After-asked_for-searches) (plan : List ℕ) (w d : Option ℕ) → k.asked-d.result ≡ d → let a = k.args in
    Put a.plan.now plan a.e (toward (paths_of (task_in a.arcs.now.task.now) (sets_of a.arcs.now.ever.now) (a.f / 64)) (a.f % 64) (option_of d)) w
    → Put a.plan.now plan 0 (served_in a.arcs.now.task.now a.arcs.now.ever.now a.f (take a.e a.plan.now) a.want.now) w
put_behind k plan w d e p =
    let a = k.args in
    served_behind (task_in a.arcs.now.task.now) (sets_of a.arcs.now.ever.now) (a.f / 64) (a.f % 64) a.plan.now a.e (facts_of a.want.now) k.requires.e_in_bounds.0 (idle_there k) d
    (rw e at k.asked-d.ensures) plan w p

counts_behind : (k : After-asked_for-searches) → let a = k.args in k.asked_for-searches.result
    ≡ pass_searches (act (task_in a.arcs.now.task.now)) (a.f / 64) (take a.e a.plan.now) (facts_of a.want.now)
counts_behind k =
    let a = k.args in
    k.asked_for-searches.ensures ∙ served_counts (task_in a.arcs.now.task.now) (a.f / 64) _ (facts_of a.want.now) (idle_there k) _ k.asked-d.ensures

pub returns-in_err-end-in-Some-clause-put : goal.returns-in_err-end-in-Some-clause-put
returns-in_err-end-in-Some-clause-put c =
    let a = c.args in
    rw c.from_residual.ensures
    (put_behind (goal.at.returns-in_err-end-in-Some-clause-put c).After-asked_for-searches c.path.new.list None _ c.in-Some.is
    (lead_some (paths_of (task_in a.arcs.now.task.now) (sets_of a.arcs.now.ever.now) (a.f / 64)) (a.f % 64) c.in-Some.d a.plan.now c.path.new.list a.e None c.in_err-end-in-Some.ensures.put))

pub returns-in_ok-end-in-Some-clause-put : goal.returns-in_ok-end-in-Some-clause-put
returns-in_ok-end-in-Some-clause-put c =
    let a = c.args in
    put_behind (goal.at.returns-in_ok-end-in-Some-clause-put c).After-asked_for-searches c.path.new.list (Some c.in_ok-end-in-Some.end) _ c.in-Some.is
    (lead_some (paths_of (task_in a.arcs.now.task.now) (sets_of a.arcs.now.ever.now) (a.f / 64)) (a.f % 64) c.in-Some.d a.plan.now c.path.new.list a.e (Some c.in_ok-end-in-Some.end) c.in_ok-end-in-Some.ensures.put)

pub returns-in_ok-end-in-Some-clause-searched : goal.returns-in_ok-end-in-Some-clause-searched
returns-in_ok-end-in-Some-clause-searched c = counts_behind (goal.at.returns-in_ok-end-in-Some-clause-searched c).After-asked_for-searches

pub returns-in_default-clause-put : goal.returns-in_default-clause-put
returns-in_default-clause-put c =
    let a = c.args in
    let t = task_in a.arcs.now.task.now in
    let K = sets_of a.arcs.now.ever.now in
    put_behind (goal.at.returns-in_default-clause-put c).After-asked_for-searches a.plan.now (Some a.e) _ c.in-Some.is
    (lead_same (paths_of t K (a.f / 64)) (a.f % 64) c.in-Some.d (path_none t K (a.f / 64) (a.f % 64) c.in-Some.d (sym c.if-d-f.false)) a.plan.now a.e c.requires.e_in_bounds.0)

pub returns-in_default-clause-searched : goal.returns-in_default-clause-searched
returns-in_default-clause-searched c = counts_behind (goal.at.returns-in_default-clause-searched c).After-asked_for-searches

pub returns-in_default-2-clause-put : goal.returns-in_default-2-clause-put
returns-in_default-2-clause-put c =
    let a = c.args in
    put_behind (goal.at.returns-in_default-2-clause-put c).After-asked_for-searches a.plan.now (Some a.e) _ c.in_default.is
    (lead_none (paths_of (task_in a.arcs.now.task.now) (sets_of a.arcs.now.ever.now) (a.f / 64)) (a.f % 64) a.plan.now a.e c.requires.e_in_bounds.0)

pub returns-in_default-2-clause-searched : goal.returns-in_default-2-clause-searched
returns-in_default-2-clause-searched c = counts_behind (goal.at.returns-in_default-2-clause-searched c).After-asked_for-searches
