use Rattle.record.proofs.Laws.{variable_sound}
use native.Mathlib.Omega.{arith}
use Rattle.record.proofs.sound_variable.Goals as goal

pub returns : goal.returns
returns c =
    variable_sound _ _ _ (c.window_at-fields.ensures 20 (omega arith) (omega arith)) (omega arith) (c.is_sound_variable.ensures.0 c.if-not-is_sound_variable.false)
