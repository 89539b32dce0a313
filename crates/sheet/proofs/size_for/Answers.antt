-- Each refusal, and the size where none refuses.
use mathlib.Core.Path.{◌≡◌, sym, ◌∙◌}
use mathlib.Core.Option.{none}
use native.Mathlib.Omega.{arith}
use lib.ListN.{length}
use Rattle.planning.specs.Calls.{not_below}
use Rattle.planning.specs.Sheet.{sheet_size, sheet_end}
use Rattle.laws.proofs.Checks.{refuse_at_none}
use Rattle.std.proofs.lemmas.Result.{err_from_is_err_and}
use Rattle.sheet.proofs.Widths.{eighths}
use Rattle.sheet.proofs.Checks.{over_length, over_entry, over_room, writes}
use Rattle.sheet.proofs.size_for.Goals as goal
use Rattle.sheet.proofs.size_for.Goals.{After-div_ceil-size}

pub returns-then-list-gt32768 : goal.returns-then-list-gt32768
returns-then-list-gt32768 c = λ ms d b. sym (over_length _ _ c.if-list-gt32768.true)

pub returns-in_err-check_entries : goal.returns-in_err-check_entries
returns-in_err-check_entries c = λ ms d b.
    let p = err_from_is_err_and c.from_residual.result c.from_residual.ensures.1 in
    rw (p.1, p.2) (sym (over_entry _ _ (omega arith) _ _ (sym c.in_err-check_entries.ensures)))

below : (c : After-div_ceil-size) → not_below 1024 0 c.args.list.now ≡ none
below c = refuse_at_none 13 _ (sym c.in_ok-check_entries.ensures)

size_is : (c : After-div_ceil-size) → c.div_ceil-size.result ≡ sheet_size c.args.edition (length c.args.list.now)
unfolding sheet_size sheet_end
size_is c = c.div_ceil-size.ensures ∙ rw (c.mark_width.ensures.0) (eighths _)

pub returns-then-room-size : goal.returns-then-room-size
returns-then-room-size c = λ ms d b.
    let k = (goal.at.returns-then-room-size c).After-div_ceil-size in
    sym (over_room _ _ (omega arith) (below k) (rw (← size_is k) c.if-room-size.true))

pub returns : goal.returns
returns c = λ ms d b.
    let k = (goal.at.returns c).After-div_ceil-size in
    rw (size_is k) (sym (writes _ _ (omega arith) (below k) (rw (← size_is k) c.if-room-size.false)))
