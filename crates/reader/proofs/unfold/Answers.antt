-- A sheet of edition 1 has no marks; of edition 2 they are read with the steps, and the rest is cleared.
use mathlib.Core.Path.{◌≡◌, refl, ◌∙◌}
use mathlib.Core.List.{◌++◌}
use Prim.Native.Nat.{◌-◌}
use native.Mathlib.Omega.{arith}
use borrow.Author.Rules.{rules}
use lib.ListN.{length, take, replicate}
use Rattle.planning.specs.Sheet.{marks_at}
use Rattle.sheet.proofs.Rows.{marks_cleared}
use Rattle.reader.proofs.unfold.Goals as goal

pub returns-then-mark-eq0 : goal.returns-then-mark-eq0
returns-then-mark-eq0 c =
    let a = c.args in
    record {
      list_after = rw c.if-mark-eq0.true c.read_steps.ensures;
      marks_after = c.clear.ensures ∙ marks_cleared a.bytes.now a.mark 53 a.steps (length a.marks.now) (omega arith) (omega arith);
    }

pub read_marked-requires : goal.read_marked-requires
read_marked-requires c =
    let e : c.args.mark ≡ 1 = omega arith in
    (omega arith, search rules, search rules, rw e at c.requires.4)

pub returns : goal.returns
returns c =
    let d = c.read_marked.new.marks in
    let e : c.args.mark ≡ 1 = omega arith in
    let l : length d ≡ length c.args.marks.now = search rules in
    let s = c.args.bytes.now in
    let n = c.args.steps in
    let z : take n d ++ replicate (length d - n) 0 ≡ marks_at s c.args.mark 53 n ++ replicate (length c.args.marks.now - n) 0 =
    rw (c.read_marked.ensures.1, l, e) refl in
    record { list_after = rw e c.read_marked.ensures.0; marks_after = c.clear_from.ensures ∙ z }
