use Rattle.graph.proofs.Rows.{action_arcs, action_none}
use Rattle.graph.proofs.add_action.Goals as goal

pub returns-then-targets-eq0 : goal.returns-then-targets-eq0
returns-then-targets-eq0 c = record {
  long = c.told-rows;
  states = action_none _ _ _ _ c.changed-targets.ensures c.if-targets-eq0.true;
}

pub returns : goal.returns
returns c = record {
  long = c.add_arcs-2.ensures.long;
  states = action_arcs _ _ _ _ c.changed-targets.ensures _ _ _ _ c.preconditions.ensures.stated c.effects.ensures.stated c.add_arcs.ensures.states c.add_arcs-2.ensures.states;
}
