use Rattle.cycles.proofs.Ways.{joining_turn, joining_end}
use native.Mathlib.Omega.{arith}
use Rattle.cycles.proofs.join_at.Goals as goal

pub loop-u-preserved : goal.loop-u-preserved
loop-u-preserved c = joining_turn _ _ _ c.requires.0 c.requires.2 _ _ _ c.loop-u.invariant (omega arith) _ c.extended.ensures

pub returns : goal.returns
returns c = let p = c.requires in record { long = c.loop-u.invariant.long; states = joining_end _ _ _ p.0 p.2 _ _ _ c.loop-u.invariant (omega arith) }
