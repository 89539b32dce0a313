use Rattle.std.proofs.Common.{◌≡◌}
use Rattle.planning.specs.Runs.{goals}
use Rattle.task.specs.Task.{facts_of, task_in}
use Rattle.state.proofs.Stating.{goals_states}
use Rattle.stages.proofs.Finishing.{goals_wanted}
use Rattle.stages.proofs.finish.Goals as goal
use Rattle.stages.proofs.finish.Goals.{After-listed}

-- the slice states the goals
stated : (c : After-listed) → facts_of c.listed.result.now ≡ goals (task_in c.args.arcs.now.task.now)
stated c = rw c.listed.ensures (goals_states _ _ c.load-goals.ensures).stated

pub moves-requires-clause-prepared : goal.moves-requires-clause-prepared
moves-requires-clause-prepared c =
    let p = c.requires.prepared in
    (p.0, goals_wanted _ p.0.loaded.formed _ (stated (goal.at.moves-requires-clause-prepared c).After-listed), p.1, p.2)

pub returns-clause-put : goal.returns-clause-put
returns-clause-put c = rw (← stated (goal.at.returns-clause-put c).After-listed) c.moves.ensures.put

pub returns-clause-searched : goal.returns-clause-searched
returns-clause-searched c = rw (← stated (goal.at.returns-clause-searched c).After-listed) c.moves.ensures.searched
