-- Without marks there is none; else the byte decides, or that there is none.
use mathlib.Core.Path.{◌≡◌, sym, ◌∙◌}
use Prim.Native.Nat.{suc}
use native.Mathlib.Omega.{arith}
use lib.ListN.{get_or}
use Rattle.pack.proofs.Fields.{no_mark, mark_missing, mark_bit, mark_of_lt}
use Rattle.pack.proofs.mark_at.Goals as goal
use Rattle.pack.proofs.mark_at.Goals.{then-this-eq0-via-then-this-eq0, then-this-eq0-via-else-this-eq0+then-marks-i}

pub returns-then-this-eq0 : goal.returns-then-this-eq0
returns-then-this-eq0 g c =
    elim c.then-this-eq0.branch [
      | then-this-eq0-via-then-this-eq0 w ↦ (rw w.if-this-eq0.true (sym (no_mark _)), omega arith)
      | then-this-eq0-via-else-this-eq0+then-marks-i w ↦ (mark_missing (suc g.row.MARK) _ _ w.if-marks-i.true, omega arith)
    ]

pub returns : goal.returns
returns g c =
    let z : g.row.MARK ≡ 1 = omega arith in
    let m = get_or c.args.marks.now c.args.i 0 in
    let e = c.from.ensures ∙ mark_bit m in
    rw z (e, omega (arith, e, mark_of_lt 2 m))
