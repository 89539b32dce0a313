-- At each `return` the tests that led there say which check refuses.
use mathlib.Core.Path.{◌≡◌, sym, ap, ◌∙◌}
use native.Mathlib.Omega.{arith}
use Rattle.planning.specs.Basics.{Check, answer}
use Rattle.planning.specs.Sheet.{sheet_check, edition_in, steps_in}
use Rattle.sheet.proofs.Checks.{refuses, cut_before_edition, wrong_edition, cut_before_steps, too_many_steps, cut_before_cost, front_passed}
use Rattle.sheet.specs.Answers.{heading_of}
use Rattle.sheet.proofs.read_fields.Goals as goal
use Rattle.sheet.proofs.read_fields.Goals.{After-read_bits-edition, After-read_bits-steps}

pub returns-then-bytes-lt1 : goal.returns-then-bytes-lt1
returns-then-bytes-lt1 c =
    let s = c.args.bytes.now in
    c.refused.ensures ∙ sym (refuses (heading_of s) (sheet_check s) 12 _ (cut_before_edition s (omega arith)))

edition_is : (c : After-read_bits-edition) → c.read_bits-edition.result ≡ edition_in c.args.bytes.now
unfolding edition_in
edition_is c = c.read_bits-edition.ensures

pub returns-then-edition-lt1 : goal.returns-then-edition-lt1
returns-then-edition-lt1 c =
    let s = c.args.bytes.now in
    let e = edition_is (goal.at.returns-then-edition-lt1 c).After-read_bits-edition in
    c.refused-then-edition-lt1.ensures ∙ sym (refuses (heading_of s) (sheet_check s) 12 _ (wrong_edition s (omega arith) (λ l m. omega (arith, e))))

pub returns-then-edition-gt2 : goal.returns-then-edition-gt2
returns-then-edition-gt2 c =
    let s = c.args.bytes.now in
    let e = edition_is (goal.at.returns-then-edition-gt2 c).After-read_bits-edition in
    c.refused-then-edition-gt2.ensures ∙ sym (refuses (heading_of s) (sheet_check s) 12 _ (wrong_edition s (omega arith) (λ l m. omega (arith, e))))

pub returns-then-bytes-lt3 : goal.returns-then-bytes-lt3
returns-then-bytes-lt3 c =
    let s = c.args.bytes.now in
    let e = edition_is (goal.at.returns-then-bytes-lt3 c).After-read_bits-edition in
    c.refused-then-bytes-lt3.ensures ∙ sym (refuses (heading_of s) (sheet_check s) 12 _ (cut_before_steps s (omega arith) (omega (arith, e)) (omega (arith, e)) (omega arith)))

steps_are : (c : After-read_bits-steps) → c.read_bits-steps.result ≡ steps_in c.args.bytes.now
unfolding steps_in
steps_are c = c.read_bits-steps.ensures

pub returns-then-steps-gt32768 : goal.returns-then-steps-gt32768
returns-then-steps-gt32768 c =
    let s = c.args.bytes.now in
    let e = edition_is (goal.at.returns-then-steps-gt32768 c).After-read_bits-edition in
    c.refused-then-steps-gt32768.ensures ∙ sym (refuses (heading_of s) (sheet_check s) 12 _ (too_many_steps s (omega arith) (omega (arith, e)) (omega (arith, e)) (omega arith) (omega (arith, steps_are (goal.at.returns-then-steps-gt32768 c).After-read_bits-steps))))

pub returns-then-bytes-lt7 : goal.returns-then-bytes-lt7
returns-then-bytes-lt7 c =
    let s = c.args.bytes.now in
    let e = edition_is (goal.at.returns-then-bytes-lt7 c).After-read_bits-edition in
    let f = steps_are (goal.at.returns-then-bytes-lt7 c).After-read_bits-steps in
    c.refused-then-bytes-lt7.ensures
    ∙ sym (refuses (heading_of s) (sheet_check s) 12 _ (cut_before_cost s (omega arith) (omega (arith, e)) (omega (arith, e)) (omega arith) (omega (arith, f)) (omega arith)))

pub read_end-requires : goal.read_end-requires
read_end-requires c = (omega arith, edition_is (goal.at.read_end-requires c).After-read_bits-edition, steps_are (goal.at.read_end-requires c).After-read_bits-steps, omega arith)

pub returns : goal.returns
returns c =
    let s = c.args.bytes.now in
    let e = edition_is (goal.at.returns c).After-read_bits-edition in
    let p = front_passed s (omega arith) (omega (arith, e)) (omega (arith, e)) (omega arith) (omega (arith, steps_are (goal.at.returns c).After-read_bits-steps)) (omega arith) in
    c.read_end.ensures ∙ ap (λ (k : Check). answer k (heading_of s)) (sym p)
