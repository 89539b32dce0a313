-- Where the slot has the mark and the lead from c nothing is to be done; else the leads are written, and the mark.
use Rattle.std.proofs.Common.{◌<◌, arith}
use Rattle.laws.proofs.Painting.{black_inside}
use Rattle.task.specs.Task.{task_in}
use Rattle.paths.proofs.Memos.{memo_marks, memo_lead, slot_below}
use Rattle.paths.proofs.prepare.Goals as goal
use Rattle.paths.proofs.prepare.Goals.{Start}

-- the slot is small, and mark and lead lie in the memo
slotted : (s : Start) → s.args.k < 64
slotted s = omega (arith, s.requires.k_value.0, slot_below s.args.v s.args.d)

pub offset_bounds-memo-k : goal.offset_bounds-memo-k
offset_bounds-memo-k c = record { fits = omega (arith, slotted (goal.at.offset_bounds-memo-k c).Start) }

pub bounds-memo-k : goal.bounds-memo-k
bounds-memo-k c = omega (arith, slotted (goal.at.bounds-memo-k c).Start, c.requires.k_value.1.long, memo_marks (task_in c.args.arcs.now.task.now))

pub overflow_add-begun : goal.overflow_add-begun
overflow_add-begun c =
    let p = c.requires.prepared in
    record { fits = omega (arith, black_inside _ _ p.1, p.0.loaded.formed.variables_max, slotted (goal.at.overflow_add-begun c).Start) }

pub bounds-memo-c : goal.bounds-memo-c
bounds-memo-c c =
    let p = c.requires.prepared in
    let b = slotted (goal.at.bounds-memo-c c).Start in
    omega (arith, c.requires.k_value.1.long, memo_lead (task_in c.args.arcs.now.task.now) c.args.v c.args.c c.args.k p.1 p.2 (p.0.loaded.formed.count_max c.args.v) b)
