use mathlib.Core.Path.{◌≡◌, refl, ◌∙◌}
use Prim.Native.Nat.{◌+◌, ◌*◌, ◌/◌}
use native.Mathlib.Omega.{arith}
use Rattle.unpack.proofs.Copying.{copying_more, four_stored, eight_marks}
use Rattle.sheet.proofs.Rows.{steps_at_row, marks_at_row}
use borrow.Author.Rules.{rules}
use Rattle.unpack.proofs.read_both.Goals as goal

pub loop-k-preserved : goal.loop-k-preserved
loop-k-preserved c =
    let s = c.args.bytes.now in
    let i = 8 * c.loop-k.k in
    let at = 6 + 11 * c.loop-k.k in
    let ys = c.put_four.new.list in
    let f = c.front-a.ensures.0 in
    let t = c.front-b.ensures.0 in
    let p = four_stored s 1 (at * 8) 49 _ (53 + 11 * i) f (omega arith) (omega arith) c.loop-k.list i _ (omega arith) c.spread-first.ensures in
    let g = copying_more _ _ _ _ _ _ _ c.loop-k.invariant.0 4 ys (omega arith) (search rules) (c.put_four.ensures ∙ p) in
    let q = four_stored s 1 ((at + 6) * 8) 45 _ (53 + 11 * (i + 4)) t (omega arith) (omega arith) ys (i + 4) _ (omega (arith, g.long)) c.spread-second.ensures in
    let h = copying_more _ _ _ _ _ _ _ g 4 _ (omega arith) (search rules) (c.put_four-in-loop-k.ensures ∙ q) in
    let n : i + 4 + 4 ≡ 8 * (c.loop-k.k + 1) = omega arith in
    let o : i + 8 ≡ 8 * (c.loop-k.k + 1) = omega arith in
    let e = eight_marks s (53 + 11 * i) (at * 8) 49 _ _ ((at + 6) * 8) 45 _ _ _ f (omega arith) (omega arith) t (omega arith) (omega arith)
    c.gather.ensures c.gather-in-loop-k.ensures refl in
    let m = copying_more _ _ _ _ _ _ _ c.loop-k.invariant.1 8 _ (omega arith) (search rules) (c.put_word.ensures ∙ rw e refl) in
    (rw n at h, rw o at m)

pub returns : goal.returns
returns c =
    let e : c.loop-k.k ≡ c.saturating_sub-eights.result / 8 = omega arith in
    let g = rw e at c.loop-k.invariant.0 in
    let h = rw e at c.loop-k.invariant.1 in
    ((g.within, simp steps_at_row g.so_far), (h.within, simp marks_at_row h.so_far))
