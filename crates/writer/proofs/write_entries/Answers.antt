use mathlib.Core.Path.{◌≡◌}
use Prim.Native.Nat.{◌+◌, ◌*◌, ◌/◌}
use native.Mathlib.Omega.{arith}
use borrow.Author.Rules.{rules}
use lib.ListN.{length}
use Rattle.pack.proofs.Fields.{entries_fit, step_bits_fields}
use Rattle.writer.proofs.Writing.{counted, writing_start, writing_turn, writing_end, writing_room, writing_last}
use Rattle.writer.proofs.write_entries.Goals as goal

pub loop-k-init : goal.loop-k-init
loop-k-init g c = writing_start _ _ _ _ _

pub write_eight-requires : goal.write_eight-requires
write_eight-requires g c =
    let e = c.eight_at-e.ensures in
    let n = counted g.row.MARK c.requires.0 c.args.list.now c.args.marks.now _ c.requires.3 in
    (c.requires.0, writing_room _ c.requires.0 _ _ _ _ _ _ _ _ c.loop-k.invariant n.1 c.requires.4 (omega arith), c.loop-k.invariant.few, e.0.1, e.1.1)

pub loop-k-preserved : goal.loop-k-preserved
loop-k-preserved g c =
    let e = c.eight_at-e.ensures in
    let n = counted g.row.MARK c.requires.0 c.args.list.now c.args.marks.now _ c.requires.3 in
    let k : 8 * c.loop-k.k + 8 ≡ 8 * (c.loop-k.k + 1) = omega arith in
    let w = writing_turn _ c.requires.0 _ _ _ _ _ _ _ _ c.loop-k.invariant n.1 c.requires.4 (entries_fit _ c.requires.0 _ _ c.requires.1) _ _
    e.0.0 e.1.0 e.0.1 e.1.1 c.write_eight.new.bytes (omega arith) (search rules) c.write_eight.ensures in
    rw k at w

pub overflow_sub-size : goal.overflow_sub-size
overflow_sub-size g c =
    let n = counted g.row.MARK c.requires.0 c.args.list.now c.args.marks.now _ c.requires.3 in
    omega (arith, writing_last _ c.requires.0 _ _ _ _ _ _ _ _ c.loop-k.invariant n.1 c.requires.4 (omega arith))

pub write_last-requires : goal.write_last-requires
write_last-requires g c =
    let n = counted g.row.MARK c.requires.0 c.args.list.now c.args.marks.now _ c.requires.3 in
    let w = writing_last _ c.requires.0 _ _ _ _ _ _ _ _ c.loop-k.invariant n.1 c.requires.4 (omega arith) in
    (c.requires.0, w.1, omega arith, c.loop-k.invariant.few, c.any_eight-e.ensures.0.1, c.any_eight-e.ensures.1.1)

pub returns : goal.returns
returns g c =
    let e = c.any_eight-e.ensures in
    let n = counted g.row.MARK c.requires.0 c.args.list.now c.args.marks.now _ c.requires.3 in
    let k : 8 * (c.loop-k.k) ≡ 8 * (length c.args.list.now / 8) = omega arith in
    let i = rw k at c.loop-k.invariant in
    rw (step_bits_fields g.row.MARK c.requires.0 c.args.list.now c.args.marks.now c.requires.1)
    (writing_end _ c.requires.0 _ _ _ _ _ _ _ _ i n.1 c.requires.4 (entries_fit _ c.requires.0 _ _ c.requires.1) _ _ e.0.0 e.1.0 e.0.1 e.1.1 _ (omega arith) c.write_last.ensures)
