use Rattle.std.proofs.Common.{◌≡◌, ℕ, ◌+◌, ◌*◌, ◌<◌, length, arith, refl}
use Rattle.planning.specs.Runs.{count}
use Rattle.laws.proofs.Formed.{Formed}
use Rattle.laws.proofs.Painting.{black_inside}
use Rattle.task.specs.Task.{task_in}
use Rattle.paths.proofs.Memos.{memo_marks, memo_lead, slot_below, filling_turn, memo_filled}
use Rattle.paths.proofs.towards.Goals as goal
use Rattle.paths.proofs.towards.Goals.{At-loop-x, Start}

formed : (s : Start) → Formed (task_in s.args.arcs.now.task.now)
formed s = s.requires.prepared.0.loaded.formed

-- the mark and the slot are small
marked : (s : Start) → s.args.v < 64
marked s = omega (arith, black_inside _ _ s.requires.prepared.1, (formed s).variables_max)

slotted : (s : Start) → s.args.k < 64
slotted s = omega (arith, s.requires.k_value.0, slot_below s.args.v s.args.d)

-- the lead of a value lies in the memo
fits : (s : Start) (x : ℕ) → x < count (task_in s.args.arcs.now.task.now) s.args.v → 64 * (x + 1) + s.args.k < length s.args.memo.now
fits s x b =
    let l = memo_lead (task_in s.args.arcs.now.task.now) s.args.v x s.args.k s.requires.prepared.1 b ((formed s).count_max s.args.v) (slotted s) in
    omega (arith, l, s.requires.k_value.1.long)

pub count-x-end-requires : goal.count-x-end-requires
count-x-end-requires c = let p = c.requires.prepared in (p.0.loaded, black_inside _ _ p.1)

pub overflow_add-memo-in-loop-x : goal.overflow_add-memo-in-loop-x
overflow_add-memo-in-loop-x c = record { fits = omega (arith, slotted (goal.at.overflow_add-memo-in-loop-x c).Start) }

pub offset_bounds-memo-x : goal.offset_bounds-memo-x
offset_bounds-memo-x c = record { fits = omega (arith, slotted (goal.at.offset_bounds-memo-x c).Start) }

pub bounds-memo-x : goal.bounds-memo-x
bounds-memo-x c = omega (arith, fits (goal.at.bounds-memo-x c).Start c.loop-x.x (omega (arith, c.count-x-end.ensures)), c.loop-x.invariant.long)

pub loop-x-preserved : goal.loop-x-preserved
loop-x-preserved c =
    let s = (goal.at.loop-x-preserved c).Start in
    filling_turn _ _ _ (slotted s) _ _ _ c.loop-x.invariant _ (fits s c.loop-x.x (omega (arith, c.count-x-end.ensures))) c.lead.ensures

pub overflow_add-memo-2 : goal.overflow_add-memo-2
overflow_add-memo-2 c = record { fits = omega (arith, marked (goal.at.overflow_add-memo-2 c).Start) }

pub overflow_cast-memo : goal.overflow_cast-memo
overflow_cast-memo c = record { fits = omega (arith, marked (goal.at.overflow_cast-memo c).Start) }

pub offset_bounds-memo-k : goal.offset_bounds-memo-k
offset_bounds-memo-k c = record { fits = omega (arith, slotted (goal.at.offset_bounds-memo-k c).Start) }

pub bounds-memo-k : goal.bounds-memo-k
bounds-memo-k c =
    omega (arith, slotted (goal.at.bounds-memo-k c).Start, c.loop-x.invariant.long, c.requires.k_value.1.long, memo_marks (task_in c.args.arcs.now.task.now))

pub returns : goal.returns
returns c =
    let F = formed (goal.at.returns c).Start in
    let p = c.requires.prepared in
    let r = c.settle-rest.ensures in
    let all : c.loop-x.x ≡ count (task_in c.args.arcs.now.task.now) c.args.v = omega (arith, c.count-x-end.ensures) in
    memo_filled _ F _ _ _ p.3 _ _ r.0 _ c.requires.k_value.0 _ _ (rw all at c.loop-x.invariant) c.requires.k_value.1 _ refl F.count_max _ p.2 r.1
