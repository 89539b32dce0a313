-- The steps and their marks are all there, or the first that is not refuses; then the end decides.
use mathlib.Core.Path.{◌≡◌, refl, sym, ◌∙◌}
use Prim.Native.Nat.{◌+◌, ◌*◌}
use native.Mathlib.Omega.{arith}
use Rattle.planning.specs.Sheet.{sheet_end, sheet_of, edition_in, steps_in}
use Rattle.sheet.proofs.Checks.{refuses, passes, end_cut, end_passes, end_fails}
use Rattle.sheet.specs.Answers.{heading_of, end_check}
use Rattle.sheet.proofs.read_end.Goals as goal
use Rattle.sheet.proofs.read_end.Goals.{After-mark_width-mark}

end_is : (c : After-mark_width-mark)
    → 53 + (c.mark_width-mark.result + 10) * c.args.steps ≡ sheet_end (edition_in c.args.bytes.now) (steps_in c.args.bytes.now)
unfolding sheet_end
end_is c = rw (c.mark_width-mark.ensures.0, c.requires.1, c.requires.2) refl

pub returns-then-bytes-div_ceil : goal.returns-then-bytes-div_ceil
returns-then-bytes-div_ceil c =
    let s = c.args.bytes.now in
    c.refused.ensures ∙ rw (c.cut_at.ensures.0, c.mark_width-mark.ensures.0, c.requires.1)
    (sym (refuses (heading_of s) (end_check s) 12 _ (end_cut s (omega arith) (rw (← end_is (goal.at.returns-then-bytes-div_ceil c).After-mark_width-mark) (omega arith)))))

pub returns-then-not-ends : goal.returns-then-not-ends
returns-then-not-ends c =
    let s = c.args.bytes.now in
    let e = end_is (goal.at.returns-then-not-ends c).After-mark_width-mark in
    c.refused-then-not-ends.ensures ∙ rw e
    (sym (refuses (heading_of s) (end_check s) 12 _ (end_fails s (rw (← e) (omega arith)) (rw (← e) (sym c.if-not-ends.ensures)))))

pub returns : goal.returns
unfolding heading_of sheet_of
returns c =
    let s = c.args.bytes.now in
    let e = end_is (goal.at.returns c).After-mark_width-mark in
    rw (c.requires.1, c.requires.2, c.cost_in.ensures, c.read_bits.ensures)
    (sym (passes (heading_of s) (end_check s) (end_passes s (rw (← e) (omega arith)) (rw (← e) (sym c.if-not-ends.ensures)))))
