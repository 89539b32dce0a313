-- Each way has the same numbers.
use mathlib.Core.Path.{◌≡◌}
use Prim.Native.Nat.{◌+◌}
use native.Mathlib.Omega.{arith}
use Rattle.pack.proofs.Fields.{plain_is, four_entries_below}
use Rattle.pack.proofs.Marks.{marked_is}
use Rattle.pack.proofs.eight_at.Goals as goal

pub returns-then-this-eq0 : goal.returns-then-this-eq0
returns-then-this-eq0 g c =
    let o = c.args in
    let z = c.if-this-eq0.true in
    let a = c.steps_at.ensures in
    let b = c.steps_at-then-this-eq0.ensures in (
      (plain_is g.row.MARK z o.list.now o.marks.now o.i _ (omega arith) a.0, rw z a.1),
      (plain_is g.row.MARK z o.list.now o.marks.now (o.i + 4) _ (omega arith) b.0, rw z b.1),
    )

pub returns-then-i-marks : goal.returns-then-i-marks
returns-then-i-marks g c =
    let o = c.args in
    let z : g.row.MARK ≡ 1 = omega arith in
    let l = o.list.now in
    let ms = o.marks.now in
    let t = c.tops_at-tops.ensures in
    let a = marked_is l ms o.i _ _ _ (omega arith) c.steps_at-then-i-marks.ensures.0 t.0 c.moved.ensures in
    let b = marked_is l ms (o.i + 4) _ _ _ (omega arith) c.steps_at-then-i-marks-2.ensures.0 t.1 c.moved-then-i-marks.ensures in
    let below = four_entries_below 1 (omega arith) l ms c.requires.3 in
    rw z ((a, rw a (below o.i)), (b, rw b (below (o.i + 4))))
