-- A refusal is handed on; else the room decides.
use mathlib.Core.Option.{none}
use mathlib.Core.Path.{◌≡◌, sym, ap, ◌∙◌}
use native.Mathlib.Omega.{arith}
use Rattle.std.proofs.lemmas.Result.{err_from_is_err_and}
use Rattle.planning.specs.Basics.{done}
use Rattle.planning.specs.Calls.{Read}
use Rattle.planning.specs.Sheet.{sheet_check, steps_in}
use Rattle.answers.proofs.Stages.{answer_done}
use Rattle.sheet.proofs.Checks.{accepted, read_refused, over_list, reads}
use Rattle.sheet.specs.Answers.{read_of, heading_of}
use Rattle.sheet.proofs.read_checked.Goals as goal
use Rattle.sheet.proofs.read_checked.Goals.{In_ok-heading}

pub returns-in_err-heading : goal.returns-in_err-heading
returns-in_err-heading c = λ n m r.
    let p = err_from_is_err_and c.from_residual.result c.from_residual.ensures.1 in
    rw (p.1, p.2) (sym (read_refused c.args.bytes.now n m _ _ (sym c.in_err-heading.ensures)))

was : (c : In_ok-heading) → (sheet_check c.args.bytes.now ≡ none) × (heading_of c.args.bytes.now ≡ read_of c.in_ok-heading.heading)
was c = answer_done (sheet_check c.args.bytes.now) (heading_of c.args.bytes.now) _ (sym c.in_ok-heading.ensures)

steps_are : (c : In_ok-heading) → c.in_ok-heading.heading.steps ≡ steps_in c.args.bytes.now
unfolding heading_of
steps_are c = ap (λ (h : Read). h.steps) (sym (was c).1)

pub returns-then-room-heading : goal.returns-then-room-heading
returns-then-room-heading c = λ n m r.
    let s = c.args.bytes.now in
    let k = (goal.at.returns-then-room-heading c).In_ok-heading in
    let w = (was k).0 in
    rw r (sym (over_list s n m w (accepted s w).few (omega (arith, steps_are k))))

pub returns : goal.returns
returns c = λ n m r.
    let s = c.args.bytes.now in
    let k = (goal.at.returns c).In_ok-heading in
    let w = was k in
    ap done (sym w.1) ∙ sym (reads s n m w.0 (accepted s w.0).few (omega (arith, steps_are k)))
