use Rattle.graph.proofs.Rows.{changing_start, changing_turn, changing_skip, changing_end}
use Rattle.graph.proofs.changed.Goals as goal
use Rattle.graph.proofs.changed.Goals.{then-changes, else-changes}

pub loop-f-init : goal.loop-f-init
loop-f-init c = changing_start _ _ _

pub loop-f-preserved : goal.loop-f-preserved
loop-f-preserved c =
    elim c.if-changes.branch [
      | then-changes t ↦ changing_turn _ _ _ _ _ c.loop-f.invariant c.loop-f-test.true _ c.from-f.ensures _ c.changes.ensures t.if-changes.true _ _ t.single-set.ensures t.set-is
      | else-changes e ↦ changing_skip _ _ _ _ _ c.loop-f.invariant c.loop-f-test.true _ c.from-f.ensures _ c.changes.ensures e.if-changes.false _ e.set-is
    ]

pub returns : goal.returns
returns c = changing_end _ _ _ _ _ c.loop-f.invariant c.loop-f-test.false c.effects-effects.ensures.stated
