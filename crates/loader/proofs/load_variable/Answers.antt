-- The 20 bits pass their checks exactly if the quick test finds them sound.
use native.Mathlib.Omega.{arith}
use Rattle.record.proofs.Laws.{false_not, count_is, variable_sound, variable_exact, variable_fits}
use Rattle.answers.proofs.Stages.{answer_done}
use Rattle.loader.proofs.Cut.{field_below}
use Rattle.loader.proofs.Loading.{variable_loaded}
use mathlib.Core.Path.{sym, ◌∙◌}
use Rattle.loader.proofs.load_variable.Goals as goal

pub returns-then-bytes-at : goal.returns-then-bytes-at
returns-then-bytes-at c = λ e. omega (arith, variable_fits _ _ e)

pub is_sound_variable-requires : goal.is_sound_variable-requires
is_sound_variable-requires c = omega (arith, field_below _ _ 20 _ c.read_bits-fields.ensures)

pub returns-then-not-is_sound_variable : goal.returns-then-not-is_sound_variable
returns-then-not-is_sound_variable c =
    λ e. false_not (sym c.if-not-is_sound_variable.true ∙ c.is_sound_variable.ensures.1 (variable_exact _ _ _ c.read_bits-fields.ensures e))

pub overflow_cast-count : goal.overflow_cast-count
overflow_cast-count c = record { fits = omega (arith, field_below _ _ 20 _ c.read_bits-fields.ensures) }

pub returns : goal.returns
returns c =
    let b = c.read_bits-fields.ensures in
    let S = c.is_sound_variable.ensures.0 c.if-not-is_sound_variable.false in
    let p = answer_done _ _ _ (sym (variable_sound _ _ _ b (omega arith) S)) in
    record { passed = p.0; values = count_is _ _ _ p.1; loaded = variable_loaded _ _ _ _ _ b (rw c.from.ensures at c.write_row.ensures) }
