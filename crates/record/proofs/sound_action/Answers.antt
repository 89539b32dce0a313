-- The two counts are the 8 bits behind the cost; fields that are there and two lists that pass make the action pass.
use Rattle.record.proofs.Laws.{pre_count, eff_count, action_sound}
use native.Mathlib.Omega.{arith}
use Rattle.record.proofs.sound_action.Goals as goal

pub returns-then-sound_facts-2 : goal.returns-then-sound_facts-2
returns-then-sound_facts-2 c =
    let w = c.window_at-both.ensures 8 (omega arith) (omega arith) in
    action_sound _ _ _ _ (pre_count _ _ _ w) (eff_count _ _ _ w) (omega arith)
    (c.sound_facts.ensures c.if-sound_facts.true) (c.sound_facts-then-sound_facts.ensures c.if-sound_facts-2.true)
