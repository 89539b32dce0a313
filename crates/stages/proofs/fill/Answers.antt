use Rattle.std.proofs.Common.{◌≡◌, List, ℕ, ◌<◌, T, length, get_or, arith}
use Rattle.planning.specs.Runs.{variables, black}
use Rattle.task.specs.Task.{task_in}
use Rattle.task.specs.Links.{Prepared, order_in}
use Rattle.task.proofs.Reading.{order_length}
use Rattle.stages.specs.Stages.{Present, shown_by}
use Rattle.stages.proofs.Values.{present_shown}
use Rattle.stages.proofs.Filling.{filling_long, filling_modest, filling_turn, filling_end, filling_searched, order_black}
use Rattle.stages.proofs.fill.Goals as goal
use Rattle.stages.proofs.fill.Goals.{After-present-f}

-- a variable of the order is black
painted : (task : List ℕ) → Prepared task → (n p v : ℕ) → n ≡ length (order_in task) → p < n → v ≡ get_or (order_in task) p 0 → (v < variables (task_in task)) × T (black (task_in task) v)
painted task P n p v e h o = order_black _ _ P.ordered p (omega arith) v o

-- its present fact, as the red-black state has it
shown : (c : After-present-f) → let a = c.args in Present (task_in a.arcs.now.task.now) (shown_by a.arcs.now.task.now a.arcs.now.ever.now a.newest.now) c.order_at-v.result c.present-f.result
shown c = present_shown _ _ _ _ _ (painted _ c.requires.prepared.0 _ _ _ c.ordered-p-end.ensures c.loop-p-test.true c.order_at-v.ensures).1 c.present-f.ensures

pub present-f-requires : goal.present-f-requires
present-f-requires c = let P = c.requires.prepared.0 in (P.loaded, (painted _ P _ _ _ c.ordered-p-end.ensures c.loop-p-test.true c.order_at-v.ensures).0)

pub serve-requires-clause-prepared : goal.serve-requires-clause-prepared
serve-requires-clause-prepared c =
    let P = c.requires.prepared.0 in
    (P, rw c.present-f.ensures.of (painted _ P _ _ _ c.ordered-p-end.ensures c.loop-p-test.true c.order_at-v.ensures).1, c.loop-p.invariant.rows)

pub returns-in_err-w-clause-put : goal.returns-in_err-w-clause-put
returns-in_err-w-clause-put c =
    rw c.from_residual.ensures
    (filling_long c.loop-p.invariant (omega (arith, c.ordered-p-end.ensures)) _ _ c.order_at-v.ensures (shown (goal.at.returns-in_err-w-clause-put c).After-present-f) c.serve.new.plan c.in_err-w.ensures.put
    c.requires.prepared.0.ordered)

pub overflow_add-searches : goal.overflow_add-searches
overflow_add-searches c =
    let p = c.requires.prepared in
    let P = p.0 in
    let few = filling_modest c.loop-p.invariant (omega (arith, c.ordered-p-end.ensures)) _ _ c.order_at-v.ensures (shown (goal.at.overflow_add-searches c).After-present-f) c.serve.new.plan
    _ _ c.in_ok-w.ensures.put c.in_ok-w.ensures.searched p.2 in
    record { fits = omega (arith, few, c.loop-p-test.true, c.ordered-p-end.ensures, order_length _ P, P.few) }

pub loop-p-preserved : goal.loop-p-preserved
loop-p-preserved c =
    filling_turn c.loop-p.invariant (omega (arith, c.ordered-p-end.ensures)) _ _ c.order_at-v.ensures (shown (goal.at.loop-p-preserved c).After-present-f) c.serve.new.plan
    _ _ c.in_ok-w.ensures.put c.in_ok-w.ensures.searched c.requires.prepared.2 _ c.serve.auto.plan c.in_ok-w.ensures.memo

pub returns-clause-put : goal.returns-clause-put
returns-clause-put c = filling_end c.loop-p.invariant (omega (arith, c.ordered-p-end.ensures)) c.requires.prepared.0.ordered

pub returns-clause-searched : goal.returns-clause-searched
returns-clause-searched c = filling_searched c.loop-p.invariant (omega (arith, c.ordered-p-end.ensures)) c.requires.prepared.0.ordered
