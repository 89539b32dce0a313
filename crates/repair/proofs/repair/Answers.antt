-- The front part of the plan list, as long as the capacity, is lent: what is told of the part is told of the whole.
use Rattle.std.proofs.Common.{◌≤◌, length, arith, sym, ◌∙◌}
use Rattle.repair.proofs.Ending.{room_is, room_bounds, front_length, area_length, held_front}
use Rattle.repair.proofs.repair.Goals as goal
use Rattle.repair.proofs.repair.Goals.{After-capacity-room}

bounds : (c : After-capacity-room) → let a = c.args in let n = c.capacity-room.result in (n ≤ length a.plan.now) × (n ≤ length a.marks.now) × (n ≤ 32768)
bounds c = let a = c.args in room_bounds a.plan.now a.work.now a.marks.now _ _ _ c.min.ensures c.min-2.ensures c.capacity-room.ensures

pub slice_bounds-repair_in-end : goal.slice_bounds-repair_in-end
slice_bounds-repair_in-end c = (bounds (goal.at.slice_bounds-repair_in-end c).After-capacity-room).0

pub slice_bounds-repair_in-end-2 : goal.slice_bounds-repair_in-end-2
slice_bounds-repair_in-end-2 c = let a = c.args in sym (front_length a.plan.now a.work.now a.marks.now _ _ _ c.min.ensures c.min-2.ensures c.capacity-room.ensures)

pub slice_bounds-repair_in-end-3 : goal.slice_bounds-repair_in-end-3
slice_bounds-repair_in-end-3 c = (bounds (goal.at.slice_bounds-repair_in-end-3 c).After-capacity-room).1

pub slice_bounds-repair_in-end-4 : goal.slice_bounds-repair_in-end-4
slice_bounds-repair_in-end-4 c = let a = c.args in sym (area_length a.plan.now a.work.now a.marks.now _ _ _ c.min.ensures c.min-2.ensures c.capacity-room.ensures)

pub repair_in-requires : goal.repair_in-requires
repair_in-requires c =
    let a = c.args in
    let d = front_length a.plan.now a.work.now a.marks.now _ _ _ c.min.ensures c.min-2.ensures c.capacity-room.ensures in
    let e = area_length a.plan.now a.work.now a.marks.now _ _ _ c.min.ensures c.min-2.ensures c.capacity-room.ensures in
    (c.requires, omega (arith, d, bounds (goal.at.repair_in-requires c).After-capacity-room), e ∙ sym d)

pub returns : goal.returns
returns c =
    let a = c.args in
    let e = front_length a.plan.now a.work.now a.marks.now _ _ _ c.min.ensures c.min-2.ensures c.capacity-room.ensures in
    let m = area_length a.plan.now a.work.now a.marks.now _ _ _ c.min.ensures c.min-2.ensures c.capacity-room.ensures in
    held_front _ _ _ _ _ _ _ (sym c.repair_in.auto.plan) (sym (c.repair_in.auto.marks ∙ m ∙ sym e)) _
    (e ∙ room_is a.plan.now a.work.now a.marks.now _ _ _ c.min.ensures c.min-2.ensures c.capacity-room.ensures) _ c.repair_in.ensures
