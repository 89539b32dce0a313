-- Each field is read off the answer of `write`; its number is 0 only for success.
use mathlib.Core.Path.{refl, sym, ap, ◌∙◌}
use lib.ListN.{length}
use Rattle.planning.specs.Basics.{code}
use Rattle.mardiskos.proofs.Codes.{written_zero}
use Rattle.mardiskos.specs.Results.{size_in}
use Rattle.sheet.specs.Answers.{sheet}
use Rattle.mardiskos.proofs.sheets.mardiskos_write_sheet.Goals as goal

pub returns-in_default-clause-bytes_value : goal.returns-in_default-clause-bytes_value
unfolding size_in
returns-in_default-clause-bytes_value c = rw (← c.in_default.ensures.result_value) c.default.ensures.1

pub returns-in_default-clause-reads_as : goal.returns-in_default-clause-reads_as
returns-in_default-clause-reads_as c = λ z.
    let o = c.args in
    let v = c.code.ensures ∙ ap code c.write-answer.ensures.result_value in
    absurd (written_zero (sheet o.edition o.list.now o.marks.now o.cost o.real) (length o.bytes.now) _ _ _ (sym c.in_default.ensures.result_value) v z)

pub returns-clause-code_value : goal.returns-clause-code_value
unfolding code
returns-clause-code_value c = rw (← c.in-Ok.ensures.result_value) refl

pub returns-clause-bytes_value : goal.returns-clause-bytes_value
unfolding size_in
returns-clause-bytes_value c = rw (← c.in-Ok.ensures.result_value) refl
