-- The answer is that of the checks. List and area hold the steps and the marks in front and what is asked for behind; the bytes are those
-- of the sheet that was read, since an accepted sheet is written again as it was.
use mathlib.Core.Path.{◌≡◌, refl, sym, ap, ◌∙◌}
use mathlib.Core.List.{List, ◌++◌}
use Prim.Native.Nat.{ℕ, ◌+◌, ◌-◌, ◌*◌, ◌≤◌}
use native.Mathlib.Omega.{arith}
use lib.ListN.{length, take, replicate}
use Rattle.planning.specs.Basics.{done}
use Rattle.planning.specs.Calls.{Read, read_call}
use Rattle.planning.specs.Sheet.{mark_width, sheet_end, steps_at, marks_at, edition_in, steps_in}
use Rattle.sheet.proofs.Checks.{Accepted, accepted, Held, holding}
use Rattle.sheet.proofs.Promises.{read_refused, read_done}
use Rattle.sheet.specs.Answers.{read_of, heading_of}
use borrow.Author.Rules.{rules}
use Rattle.reader.proofs.read.Goals as goal
use Rattle.reader.proofs.read.Goals.{In-Ok, After-mark_width-mark}

pub returns-in_default : goal.returns-in_default
returns-in_default c =
    let o = c.args in
    let n = length o.list.now in
    let m = length o.marks.now in
    let w = c.read_checked-answer.ensures n m c.min.ensures in
    let t = c.in_default.ensures n m c.min.ensures in
    let p = read_refused o.bytes.now n m _ _ _ _ (sym t) c.blank.ensures c.clear.ensures in
    record { result_value = w; list_after = p.list; marks_after = p.marks; writes_as = λ h z. p.again h (sym w ∙ z) }

called : (c : In-Ok) → read_call c.args.bytes.now (length c.args.list.now) (length c.args.marks.now) ≡ done (read_of c.in-Ok.heading)
called c = sym (c.in-Ok.ensures (length c.args.list.now) (length c.args.marks.now) c.min.ensures)

-- the sheet that was accepted has as many steps and the edition that the answer says, and there is room
held : (c : In-Ok) → Held c.args.bytes.now (length c.args.list.now) (length c.args.marks.now) (read_of c.in-Ok.heading)
held c = holding _ _ _ _ (called c)

steps_are : (c : In-Ok) → c.in-Ok.heading.steps ≡ steps_in c.args.bytes.now
unfolding heading_of
steps_are c = ap (λ (h : Read). h.steps) (held c).is

edition_is : (c : In-Ok) → c.in-Ok.heading.edition ≡ edition_in c.args.bytes.now
unfolding heading_of
edition_is c = ap (λ (h : Read). h.edition) (held c).is

end_held : (w k : ℕ) (s : List ℕ) → w ≡ mark_width (edition_in s) → k ≡ steps_in s → Accepted s → 53 + (w + 10) * k ≤ 8 * length s
unfolding sheet_end
end_held w k s x e a = rw (x, e) (omega (arith, a.ends))

pub unfold-requires : goal.unfold-requires
unfold-requires c =
    let o = (goal.at.unfold-requires c).In-Ok in
    let h = held o in
    let e = steps_are o in
    let x = c.mark_width-mark.ensures.0 ∙ ap mark_width (edition_is o) in
    let a = accepted _ h.ok in
    (c.mark_width-mark.ensures.1, omega (arith, e, a.few), omega (arith, e, h.list_room), omega (arith, e, h.mark_room), end_held _ _ _ x e a)

-- what the list and the area hold, by what the sheet itself says of edition and steps
steps_laid : (s d : List ℕ) (n w v k j : ℕ) → take k d ≡ steps_at s w 53 k → length d ≡ n → w ≡ v → k ≡ j
    → take k d ++ replicate (length d - k) 65535 ≡ steps_at s v 53 j ++ replicate (n - j) 65535
steps_laid s d n w v k j t l x e = rw (t, l, x, e) refl

marks_laid : (s : List ℕ) (m w v k j : ℕ) → w ≡ v → k ≡ j → marks_at s w 53 k ++ replicate (m - k) 0 ≡ marks_at s v 53 j ++ replicate (m - j) 0
marks_laid s m w v k j x e = rw (x, e) refl

pub returns : goal.returns
returns c =
    let o = c.args in
    let s = o.bytes.now in
    let n = length o.list.now in
    let m = length o.marks.now in
    let d = c.unfold.new.list in
    let k = (goal.at.returns c).In-Ok in
    let w = called k in
    let h = held k in
    let l : length d ≡ n = search rules in
    let x = c.mark_width-mark.ensures.0 ∙ ap mark_width (edition_is k) in
    let e = steps_are k in
    let q : c.blank_from.new.d ≡ steps_at s (mark_width (edition_in s)) 53 (steps_in s) ++ replicate (n - steps_in s) 65535 =
    c.blank_from.ensures ∙ steps_laid s d n _ _ _ _ c.unfold.ensures.list_after l x e in
    let r : c.unfold.new.marks ≡ marks_at s (mark_width (edition_in s)) 53 (steps_in s) ++ replicate (m - steps_in s) 0 =
    c.unfold.ensures.marks_after ∙ marks_laid s m _ _ _ _ x e in
    let p = read_done s n m _ _ (rw h.is at w) h.ok (λ i. omega (arith, c.type_inv.bytes i)) q r in
    record { result_value = sym w; list_after = p.list; marks_after = p.marks; writes_as = λ j z. p.again j (w ∙ z) }
