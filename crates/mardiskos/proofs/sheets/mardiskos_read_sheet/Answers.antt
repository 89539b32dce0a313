-- Each field is read off the answer of `read`; its number is 0 only for success.
use mathlib.Core.Path.{refl, sym, ◌∙◌}
use lib.ListN.{length}
use Rattle.planning.specs.Basics.{code}
use Rattle.mardiskos.proofs.Codes.{reading_zero}
use Rattle.mardiskos.proofs.sheets.mardiskos_read_sheet.Goals as goal

pub returns-in_default-clause-value : goal.returns-in_default-clause-value
unfolding code
returns-in_default-clause-value c = rw (← c.in_default.ensures.result_value, c.code.ensures, c.in_default.is) (cc)

pub returns-in_default-clause-writes_as : goal.returns-in_default-clause-writes_as
unfolding code
returns-in_default-clause-writes_as c = λ z.
    let o = c.args in
    let e = c.in_default.ensures.result_value in
    let v = c.code.ensures ∙ rw (c.in_default.is, ← e) refl in
    absurd (reading_zero o.bytes.now (length o.list.now) (length o.marks.now) _ _ _ (sym e) v z)

pub returns-clause-writes_as : goal.returns-clause-writes_as
returns-clause-writes_as c = λ _. c.in-Ok.ensures.writes_as _ refl
