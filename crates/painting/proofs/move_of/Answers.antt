use Rattle.planning.specs.Runs.{act}
use Rattle.task.specs.Task.{task_in}
use Rattle.painting.proofs.Moves.{move_hit, move_skip, move_none}
use Rattle.painting.proofs.move_of.Goals as goal

pub returns-then-changes : goal.returns-then-changes
returns-then-changes c =
    move_hit _ _ _ c.effects-effects.ensures.stated _ c.loop-f.invariant c.loop-f-test.true _ c.from-f.ensures _ c.changes.ensures c.if-changes.true

pub loop-f-preserved : goal.loop-f-preserved
loop-f-preserved c =
    move_skip _ (act (task_in c.args.task.now) c.args.i) _ c.effects-effects.ensures.stated _ c.loop-f.invariant c.loop-f-test.true _ c.from-f.ensures _ c.changes.ensures c.if-changes.false

pub returns : goal.returns
returns c = move_none _ _ _ c.effects-effects.ensures.stated _ c.loop-f.invariant c.loop-f-test.false
