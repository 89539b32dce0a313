use mathlib.Core.Path.{sym, ◌∙◌}
use Rattle.sets.proofs.Slices.{fails_here, passes_here, passes_end}
use Rattle.applying.proofs.all_hold.Goals as goal

pub returns-then-not-holds : goal.returns-then-not-holds
returns-then-not-holds g c =
    let s = g.S.Holding.state c.args.state.now in
    sym (c.loop-f.invariant ∙ fails_here _ _ c.loop-f-test.true s _ c.from.ensures (sym c.holds.ensures ∙ c.if-not-holds.true))

pub loop-f-preserved : goal.loop-f-preserved
loop-f-preserved g c =
    let s = g.S.Holding.state c.args.state.now in
    c.loop-f.invariant ∙ passes_here _ _ c.loop-f-test.true s _ c.from.ensures (sym c.holds.ensures ∙ c.if-not-holds.false)

pub returns : goal.returns
returns g c = sym (c.loop-f.invariant ∙ passes_end _ _ c.loop-f-test.false (g.S.Holding.state c.args.state.now))
