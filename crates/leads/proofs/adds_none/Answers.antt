use Rattle.std.proofs.Common.{◌≡◌, ap, sym, ◌∙◌}
use Rattle.planning.specs.Runs.{act}
use Rattle.planning.specs.Repair.{black_met}
use Rattle.task.specs.Task.{facts_of, task_in}
use Rattle.sets.specs.Sets.{sets_of, mode_of}
use Rattle.leads.proofs.Holding.{met_fails, met_passes, met_end}
use Rattle.leads.proofs.adds_none.Goals as goal
use Rattle.leads.proofs.adds_none.Goals.{After-effects-f-items}

-- the test of the action's effects is that of the slice's facts
stated : (c : After-effects-f-items) → let met = black_met (mode_of c.args.set) (sets_of c.args.arcs.now.ever.now) in met (act (task_in c.args.arcs.now.task.now) c.args.i).eff ≡ met (facts_of c.effects-f-items.result.now)
stated c = ap (black_met (mode_of c.args.set) (sets_of c.args.arcs.now.ever.now)) (sym c.effects-f-items.ensures.stated)

pub returns-then-unheld : goal.returns-then-unheld
returns-then-unheld c =
    sym (stated (goal.at.returns-then-unheld c).After-effects-f-items ∙ c.loop-f.invariant ∙ met_fails _ _ c.loop-f-test.true _ _ _ c.from.ensures (sym c.unheld.ensures ∙ c.if-unheld.true))

pub loop-f-preserved : goal.loop-f-preserved
loop-f-preserved c = c.loop-f.invariant ∙ met_passes _ _ c.loop-f-test.true _ _ _ c.from.ensures (sym c.unheld.ensures ∙ c.if-unheld.false)

pub returns : goal.returns
returns c = sym (stated (goal.at.returns c).After-effects-f-items ∙ c.loop-f.invariant ∙ met_end _ _ _ _ c.loop-f-test.false)
