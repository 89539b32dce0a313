use mathlib.Core.Path.{refl}
use Prim.Native.Nat.{◌<◌}
use native.Mathlib.Omega.{arith}
use Rattle.graph.proofs.Rows.{adding_turn, adding_end}
use Rattle.graph.proofs.add_arcs.Goals as goal

pub loop-f-preserved : goal.loop-f-preserved
loop-f-preserved c =
    let small : c.from-u.result < 4096 = omega (arith, c.requires c.loop-f.f-index) in
    adding_turn _ _ _ _ _ _ c.loop-f.invariant c.loop-f-test.true _ _ _ c.from-u.ensures small refl c.joined.ensures

pub returns : goal.returns
returns c = record { long = c.loop-f.invariant.long; states = adding_end _ _ _ _ _ _ c.loop-f.invariant c.loop-f-test.false }
