use Rattle.std.proofs.Common.{sym, ◌∙◌}
use Rattle.task.specs.Task.{facts_of, task_in}
use Rattle.sets.specs.Sets.{sets_of}
use Rattle.stages.specs.Stages.{shown_by}
use Rattle.stages.proofs.Values.{met_shown}
use Rattle.stages.proofs.Arranging.{Passed, moves_none, moves_long, moves_some, searches_none, searches_some}
use Rattle.stages.proofs.moves.Goals as goal
use Rattle.stages.proofs.moves.Goals.{After-fill}

passed : (c : After-fill) → let a = c.args in
    Passed (task_in a.arcs.now.task.now) (sets_of a.arcs.now.ever.now) (shown_by a.arcs.now.task.now a.arcs.now.ever.now a.newest.now) (facts_of a.wanted.now) a.plan.now a.at c.fill.new.plan
passed c = record { unmet = sym (c.black_met.ensures ∙ met_shown _ _ _ _) ∙ c.if-black_met.false; within = c.requires.prepared.2; long = c.fill.auto.plan }

pub returns-then-black_met-clause-put : goal.returns-then-black_met-clause-put
returns-then-black_met-clause-put c =
    let a = c.args in
    moves_none (task_in a.arcs.now.task.now) (sets_of a.arcs.now.ever.now) (shown_by a.arcs.now.task.now a.arcs.now.ever.now a.newest.now) (facts_of a.wanted.now) a.plan.now a.at
    (sym (c.black_met.ensures ∙ met_shown _ _ _ _) ∙ c.if-black_met.true) c.requires.prepared.2

pub returns-then-black_met-clause-searched : goal.returns-then-black_met-clause-searched
returns-then-black_met-clause-searched c =
    let a = c.args in
    searches_none (task_in a.arcs.now.task.now) (sets_of a.arcs.now.ever.now) (shown_by a.arcs.now.task.now a.arcs.now.ever.now a.newest.now) (facts_of a.wanted.now)
    (sym (c.black_met.ensures ∙ met_shown _ _ _ _) ∙ c.if-black_met.true)

pub returns-in_err-w-clause-put : goal.returns-in_err-w-clause-put
returns-in_err-w-clause-put c = rw c.from_residual.ensures (moves_long (passed (goal.at.returns-in_err-w-clause-put c).After-fill) c.in_err-w.ensures.put)

pub returns-clause-put : goal.returns-clause-put
returns-clause-put c = moves_some (passed (goal.at.returns-clause-put c).After-fill) _ c.in_ok-w.ensures.put

pub returns-clause-searched : goal.returns-clause-searched
returns-clause-searched c = c.in_ok-w.ensures.searched ∙ searches_some _ _ _ _ (passed (goal.at.returns-clause-searched c).After-fill).unmet
