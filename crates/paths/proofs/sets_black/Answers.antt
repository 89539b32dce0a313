use Rattle.std.proofs.Common.{◌≡◌, ap, sym, ◌∙◌}
use Rattle.planning.specs.Runs.{variables, count, act}
use Rattle.task.specs.Task.{facts_of, task_in}
use Rattle.task.proofs.Slices.{sorted_inside}
use Rattle.paths.specs.Paths.{any_black}
use Rattle.paths.proofs.Needing.{any_here, any_later, any_end}
use Rattle.paths.proofs.sets_black.Goals as goal
use Rattle.paths.proofs.sets_black.Goals.{After-effects-f-items}

-- the test of the action's effects is that of the slice's facts
stated : (c : After-effects-f-items) → any_black (task_in c.args.task.now) (facts_of c.effects-f-items.result.now) ≡ any_black (task_in c.args.task.now) (act (task_in c.args.task.now) c.args.i).eff
stated c = ap (any_black (task_in c.args.task.now)) c.effects-f-items.ensures.stated

pub is_black-requires : goal.is_black-requires
is_black-requires c =
    let L = c.requires.0 in
    let t = task_in c.args.task.now in
    (L, rw c.from.ensures (sorted_inside (variables t) (count t) c.effects-f-items.result.now 0 (rw c.effects-f-items.ensures.stated (L.formed.eff_sorted c.args.i)) _ c.loop-f-test.true))

pub returns-then-is_black : goal.returns-then-is_black
returns-then-is_black c =
    sym (sym (stated (goal.at.returns-then-is_black c).After-effects-f-items) ∙ c.loop-f.invariant ∙ any_here _ _ c.loop-f-test.true _ c.from.ensures _ (sym c.is_black.ensures ∙ c.if-is_black.true))

pub loop-f-preserved : goal.loop-f-preserved
loop-f-preserved c = c.loop-f.invariant ∙ any_later _ _ c.loop-f-test.true _ c.from.ensures _ (sym c.is_black.ensures ∙ c.if-is_black.false)

pub returns : goal.returns
returns c = sym (sym (stated (goal.at.returns c).After-effects-f-items) ∙ c.loop-f.invariant ∙ any_end _ _ c.loop-f-test.false _)
