-- The answer is that of the checks. The bytes in front are the front's and the steps', zeros stand behind, and what is written is read
-- back as it was.
use mathlib.Core.Path.{◌≡◌, refl, sym, ◌∙◌}
use mathlib.Core.List.{◌++◌}
use Prim.Native.Nat.{◌-◌, ◌≤◌}
use native.Mathlib.Omega.{arith}
use borrow.Author.Rules.{rules}
use lib.ListN.{take, length, replicate}
use Rattle.planning.specs.Basics.{done}
use Rattle.planning.specs.Calls.{write_call}
use Rattle.planning.specs.Sheet.{edition_of, sheet_size, sheet_end, sheet_bytes}
use Rattle.sheet.proofs.Checks.{Fitting, fitting}
use Rattle.sheet.proofs.Entries.{all_below_lem}
use Rattle.sheet.proofs.Promises.{write_refused, write_done}
use Rattle.sheet.proofs.Widths.{step_bits_suc, sheet_size_suc}
use Rattle.sheet.specs.Answers.{sheet}
use Rattle.writer.proofs.Writing.{sheet_written}
use Rattle.writer.proofs.write.Goals as goal
use Rattle.writer.proofs.write.Goals.{In-Ok}

pub returns-in_default : goal.returns-in_default
returns-in_default c =
    let a = c.args in
    let t = c.in_default.ensures a.marks.now a.cost a.real in
    let p = write_refused (sheet a.edition a.list.now a.marks.now a.cost a.real) (length a.bytes.now) _ _ _ (sym t) c.clear.ensures in
    let w = c.size_for-answer.ensures a.marks.now a.cost a.real in
    record { result_value = w; bytes_after = p.0; by_index = λ n h. p.1 n (sym w ∙ h) }

called : (c : In-Ok) → let a = c.args in write_call (sheet a.edition a.list.now a.marks.now a.cost a.real) (length a.bytes.now) ≡ done c.in-Ok.n
called c = let a = c.args in sym (c.in-Ok.ensures a.marks.now a.cost a.real)

fit : (c : In-Ok) → let a = c.args in Fitting (sheet a.edition a.list.now a.marks.now a.cost a.real) (length a.bytes.now) c.in-Ok.n
fit c = fitting _ _ _ (called c)

-- a sheet has seven bytes at least
seven : (c : In-Ok) → 7 ≤ length c.args.bytes.now
unfolding sheet_size sheet_end
seven c = omega (arith, (fit c).room)

pub overflow_cast-list : goal.overflow_cast-list
overflow_cast-list c = omega (arith, (fit (goal.at.overflow_cast-list c).In-Ok).short)

pub write_bits-requires : goal.write_bits-requires
write_bits-requires c = (omega (arith, seven (goal.at.write_bits-requires c).In-Ok), omega arith, omega arith)

pub write_steps-requires : goal.write_steps-requires
write_steps-requires c =
    let f = fit (goal.at.write_steps-requires c).In-Ok in
    let e = c.mark_width-mark.ensures in
    let l : length c.write_bits.new.bytes ≡ length c.args.bytes.now = search rules in (
      e.1,
      all_below_lem 1024 0 _ (omega arith) f.below,
      f.short,
      f.size ∙ sym (rw e.0 (sheet_size_suc c.args.edition (length c.args.list.now))),
      omega (arith, f.room, f.size),
    )

pub returns : goal.returns
unfolding edition_of
returns c =
    let a = c.args in
    let x = sheet a.edition a.list.now a.marks.now a.cost a.real in
    let k = c.in-Ok.n in
    let d = c.write_steps.new.bytes in
    let o = (goal.at.returns c).In-Ok in
    let w = called o in
    let m = c.mark_width-mark.ensures.0 in
    let l : length d ≡ length a.bytes.now = search rules in
    let b : take k d ≡ sheet_bytes x =
    sheet_written x _ k a.bytes.now _ d (rw m at c.front-head.ensures) (fit o).size c.write_bits.ensures (rw (m, step_bits_suc a.edition) at c.write_steps.ensures) in
    let z : take k d ++ replicate (length d - k) 0 ≡ sheet_bytes x ++ replicate (length a.bytes.now - k) 0 = rw (b, l) refl in
    let p = write_done x (length a.bytes.now) _ k w (omega arith) (c.clear_from.ensures ∙ z) in
    record { result_value = sym w; bytes_after = p.0; by_index = λ n h. p.1 n (w ∙ h) }
