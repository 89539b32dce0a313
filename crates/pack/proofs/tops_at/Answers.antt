-- Of each mark half, rounded up, is left, and 127 more have the top bit where there is any.
use Prim.Native.Nat.{◌+◌, ◌-◌, ◌*◌, ◌/◌, ◌<◌, ◌≤◌}
use native.Mathlib.Omega.{arith}
use Rattle.pack.specs.Fields.{FourTops}
use Rattle.pack.proofs.Marks.{tops_are}
use Rattle.pack.proofs.tops_at.Goals as goal
use Rattle.pack.proofs.tops_at.Goals.{After-halves-2}

told : (c : After-halves-2)
    → let o = c.args in
    let x = c.long_word-x.result in
    let h = c.halves.result * 4294967296 + c.halves-2.result in
    let r = x - h + 9187201950435737471 in (h ≤ x) × (r < 18446744073709551616) × FourTops o.marks.now o.i (r / 4294967296) × FourTops o.marks.now (o.i + 4) r
told c =
    let o = c.args in
    tops_are o.marks.now o.i _ _ _ (λ k. omega (arith, c.type_inv.marks k)) c.long_word-x.ensures
    c.halves.ensures c.halves-2.ensures

pub returns : goal.returns
returns c = ((told (goal.at.returns c).After-halves-2).2, (told (goal.at.returns c).After-halves-2).3)
