use mathlib.Core.Path.{◌≡◌, ◌∙◌}
use Prim.Native.Nat.{◌+◌, ◌*◌, ◌/◌}
use native.Mathlib.Omega.{arith}
use Rattle.unpack.proofs.Copying.{copying_more, four_stored}
use Rattle.sheet.proofs.Rows.{steps_at_row}
use borrow.Author.Rules.{rules}
use Rattle.unpack.proofs.read_eights.Goals as goal

pub loop-k-preserved : goal.loop-k-preserved
loop-k-preserved c =
    let s = c.args.bytes.now in
    let i = 8 * c.loop-k.k in
    let at = 6 + 10 * c.loop-k.k in
    let ys = c.put_four.new.list in
    let p = four_stored s 0 (at * 8) 45 _ (53 + 10 * i) c.front.ensures.0 (omega arith) (omega arith) c.loop-k.list i _ (omega arith) c.spread-a.ensures in
    let g = copying_more _ _ _ _ _ _ _ c.loop-k.invariant 4 ys (omega arith) (search rules) (c.put_four.ensures ∙ p) in
    let q = four_stored s 0 ((at + 5) * 8) 45 _ (53 + 10 * (i + 4)) c.front-in-loop-k.ensures.0 (omega arith) (omega arith) ys (i + 4) _
    (omega (arith, g.long)) c.spread-b.ensures in
    let h = copying_more _ _ _ _ _ _ _ g 4 _ (omega arith) (search rules) (c.put_four-in-loop-k.ensures ∙ q) in
    let e : i + 4 + 4 ≡ 8 * (c.loop-k.k + 1) = omega arith in
    rw e at h

pub returns : goal.returns
returns c =
    let e : c.loop-k.k ≡ c.saturating_sub-eights.result / 8 = omega arith in
    let g = rw e at c.loop-k.invariant in
    (g.within, simp steps_at_row g.so_far)
