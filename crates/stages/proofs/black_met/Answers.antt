use Rattle.std.proofs.Common.{sym, ◌∙◌}
use Rattle.leads.proofs.Holding.{met_fails, met_passes, met_end}
use Rattle.stages.proofs.black_met.Goals as goal

pub returns-then-unmet : goal.returns-then-unmet
returns-then-unmet c = sym (c.loop-f.invariant ∙ met_fails _ _ c.loop-f-test.true _ _ _ c.from.ensures (sym c.unmet.ensures ∙ c.if-unmet.true))

pub loop-f-preserved : goal.loop-f-preserved
loop-f-preserved c = c.loop-f.invariant ∙ met_passes _ _ c.loop-f-test.true _ _ _ c.from.ensures (sym c.unmet.ensures ∙ c.if-unmet.false)

pub returns : goal.returns
returns c = sym (c.loop-f.invariant ∙ met_end _ _ _ _ c.loop-f-test.false)
