use Rattle.std.proofs.Common.{sym, ◌∙◌}
use Rattle.passes.proofs.Serving.{idle_no, idle_yes, idle_end}
use Rattle.passes.proofs.idle.Goals as goal

pub returns-then-is_some : goal.returns-then-is_some
returns-then-is_some c =
    sym (c.loop-i.invariant ∙ idle_no _ _ _ _ c.loop-i-test.true _ c.from.ensures _ c.need.ensures (sym c.is_some.ensures ∙ c.if-is_some.true))

pub loop-i-preserved : goal.loop-i-preserved
loop-i-preserved c =
    c.loop-i.invariant ∙ idle_yes _ _ _ _ c.loop-i-test.true _ c.from.ensures _ c.need.ensures (sym c.is_some.ensures ∙ c.if-is_some.false)

pub returns : goal.returns
returns c = sym (c.loop-i.invariant ∙ idle_end _ _ _ _ c.loop-i-test.false)
