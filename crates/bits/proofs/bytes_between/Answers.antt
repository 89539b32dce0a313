use mathlib.Core.Path.{◌≡◌, sym, ◌∙◌}
use Prim.Native.Nat.{◌+◌, ◌-◌, ◌^◌, ◌<◌}
use native.Mathlib.Omega.{arith}
use native.Mathlib.Nat.{lt_of_lt_of_le}
use lib.ListN.{get_or}
use lib.Pow.{pow_mono}
use Rattle.std.proofs.Common.{get_or-drop, get_or-take, length-drop, length-take}
use Rattle.laws.proofs.Fields.{bits_at_below}
use Rattle.bits.proofs.Window.{bits_at_none, bits_at_more}
use Rattle.bits.proofs.bytes_between.Goals as goal
use Rattle.bits.proofs.bytes_between.Goals.{In-loop-b, After-from}

pub loop-b-init : goal.loop-b-init
loop-b-init c = bits_at_none _ _ _ (omega arith)

passed : (c : In-loop-b) → c.loop-b.b-index < c.args.end - c.args.j
passed c = let h = simp (length-take, length-drop) at c.loop-b-test.true in omega arith

small : (c : In-loop-b) → c.loop-b.acc < 2 ^ 24
small c = rw c.loop-b.invariant (lt_of_lt_of_le (bits_at_below _ _ _) (pow_mono {j = 24} (omega (arith, passed c))))

pub overflow_mul-acc : goal.overflow_mul-acc
overflow_mul-acc c = omega (arith, small (goal.at.overflow_mul-acc c).In-loop-b)

read : (c : After-from) → c.loop-b.b-index < c.args.end - c.args.j → c.from.result ≡ get_or c.args.bytes.now (c.args.j + c.loop-b.b-index) 0
read c h = c.from.ensures ∙ rw (get_or-take, get_or-drop)

pub overflow_add-acc : goal.overflow_add-acc
overflow_add-acc c =
    let l = (goal.at.overflow_add-acc c).In-loop-b in
    omega (arith, small l, read (goal.at.overflow_add-acc c).After-from (passed l), c.type_inv.bytes (c.args.j + c.loop-b.b-index))

pub loop-b-preserved : goal.loop-b-preserved
loop-b-preserved c =
    let h = passed (goal.at.loop-b-preserved c).In-loop-b in
    let b = c.type_inv.bytes (c.args.j + c.loop-b.b-index) in
    rw (c.loop-b.invariant, read (goal.at.loop-b-preserved c).After-from h) (sym (bits_at_more _ _ _ _ (omega arith) (omega (arith, b))))
