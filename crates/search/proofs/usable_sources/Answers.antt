use Rattle.std.proofs.Common.{◌≡◌, ◌%◌, List, ap, sym, ◌∙◌}
use Rattle.planning.specs.Record.{Fact}
use Rattle.planning.specs.Runs.{look, holds, act}
use Rattle.task.specs.Task.{facts_of, task_in}
use Rattle.sets.specs.Sets.{sets_of}
use Rattle.sets.proofs.Slices.{fails_here, passes_here, passes_end, asked_here, asked_later, asked_end}
use Rattle.search.proofs.Sources.{holds_next, usable_one, usable_any, usable_no}
use Rattle.search.proofs.usable_sources.Goals as goal
use Rattle.search.proofs.usable_sources.Goals.{After-preconditions-pre}

-- what the preconditions state holds, and asks
held : (c : After-preconditions-pre) → let s = sets_of c.args.arcs.now.ever.now in holds s (act (task_in c.args.arcs.now.task.now) c.args.i).pre ≡ holds s (facts_of c.preconditions-pre.result.now)
held c = ap (holds (sets_of c.args.arcs.now.ever.now)) (sym c.preconditions-pre.ensures.stated)

asks : (c : After-preconditions-pre) → look (act (task_in c.args.arcs.now.task.now) c.args.i).pre c.args.v ≡ look (facts_of c.preconditions-pre.result.now) c.args.v
asks c = ap (λ (fs : List Fact). look fs c.args.v) (sym c.preconditions-pre.ensures.stated)

pub returns-then-f-v : goal.returns-then-f-v
returns-then-f-v c =
    let a = c.args in
    let p = (goal.at.returns-then-f-v c).After-preconditions-pre in
    usable_one (task_in a.arcs.now.task.now) (sets_of a.arcs.now.ever.now) a.i a.v a.rest _ (c.from-f.result % 64) _ _ _
    (rw (asks p, c.loop-k.invariant.1) (asked_here _ _ c.loop-k-test.true _ _ c.from-f.ensures c.if-f-v.true)) c.single.ensures
    (held p ∙ c.loop-k.invariant.0 ∙ holds_next _ a.arcs.now.ever.now _ _ _ c.loop-k-test.true c.from-f.ensures c.if-f-v.true) c.if_held.ensures

pub returns-then-not-holds : goal.returns-then-not-holds
returns-then-not-holds c =
    let a = c.args in
    usable_no (task_in a.arcs.now.task.now) (sets_of a.arcs.now.ever.now) a.i a.v a.rest
    (held (goal.at.returns-then-not-holds c).After-preconditions-pre ∙ c.loop-k.invariant.0 ∙ fails_here _ _ c.loop-k-test.true (sets_of a.arcs.now.ever.now) _ c.from-f.ensures (sym c.holds.ensures ∙ c.if-not-holds.true))

pub loop-k-preserved : goal.loop-k-preserved
loop-k-preserved c = (
  c.loop-k.invariant.0 ∙ passes_here _ _ c.loop-k-test.true (sets_of c.args.arcs.now.ever.now) _ c.from-f.ensures (sym c.holds.ensures ∙ c.if-not-holds.false),
  c.loop-k.invariant.1 ∙ asked_later _ _ c.loop-k-test.true _ _ c.from-f.ensures c.if-f-v.false,
)

pub returns : goal.returns
returns c =
    let a = c.args in
    let p = (goal.at.returns c).After-preconditions-pre in
    usable_any (task_in a.arcs.now.task.now) (sets_of a.arcs.now.ever.now) a.i a.v a.rest (asks p ∙ c.loop-k.invariant.1 ∙ asked_end _ _ c.loop-k-test.false a.v)
    (held p ∙ c.loop-k.invariant.0 ∙ passes_end _ _ c.loop-k-test.false (sets_of a.arcs.now.ever.now))
