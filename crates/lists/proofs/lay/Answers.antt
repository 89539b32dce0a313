use mathlib.Core.Path.{sym, ap, ◌∙◌}
use mathlib.Core.List.{List, ◌++◌}
use Prim.Native.Nat.{ℕ}
use native.Mathlib.Omega.{arith}
use lib.ListN.{length, drop}
use Rattle.lists.proofs.Laying.{room_short, room_fits, laid_short, laid_whole, capacity_le, front_long}
use Rattle.lists.proofs.lay.Goals as goal

pub overflow_cast-result : goal.overflow_cast-result
overflow_cast-result c =
    record { fits = omega (arith, c.capacity-room.ensures, capacity_le (length c.args.plan.now)) }

pub returns-then-room-n : goal.returns-then-room-n
returns-then-room-n c =
    let a = c.args in
    let e = c.capacity-room.ensures in
    (rw e (sym (room_short (length a.list.now) _ (omega (arith, e)))), c.blank.ensures ∙ laid_short a.list.now (length a.plan.now) _ e c.if-room-n.true)

pub slice_bounds-copy_from_slice-end : goal.slice_bounds-copy_from_slice-end
slice_bounds-copy_from_slice-end c =
    omega (arith, c.capacity-room.ensures, capacity_le (length c.args.plan.now))

pub slice_bounds-copy_from_slice-end-2 : goal.slice_bounds-copy_from_slice-end-2
slice_bounds-copy_from_slice-end-2 c = sym (front_long _ _ c.args.plan.now c.capacity-room.ensures c.if-room-n.false)

pub copy_from_slice-requires : goal.copy_from_slice-requires
copy_from_slice-requires c = front_long _ _ c.args.plan.now c.capacity-room.ensures c.if-room-n.false

pub returns : goal.returns
returns c =
    let a = c.args in
    let e = c.capacity-room.ensures in
    let whole = laid_whole a.list.now a.plan.now _ e c.if-room-n.false _ (ap (λ (x : List ℕ). x ++ drop (length a.list.now) a.plan.now) c.copy_from_slice.ensures.after) in
    (sym (room_fits (length a.list.now) _ (omega (arith, e))), c.blank_from.ensures ∙ whole)
