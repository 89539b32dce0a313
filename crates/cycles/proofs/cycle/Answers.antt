use mathlib.Core.Path.{◌∙◌}
use native.Mathlib.Omega.{arith}
use Rattle.cycles.proofs.Ways.{black_arc_starts, cycle_found}
use Rattle.cycles.proofs.cycle.Goals as goal

pub closure-ways-requires : goal.closure-ways-requires
closure-ways-requires c = let p = c.requires in (omega (arith, p.0.formed.variables_max, c.variables-n.ensures), black_arc_starts _ _ _ p.1 c.variables-n.ensures)

pub returns : goal.returns
returns c = c.lowest_on_cycle.ensures ∙ cycle_found _ _ _ _ c.requires.1 c.variables-n.ensures c.closure-ways.ensures
