-- The quick test found all sound and the end, or the checks are made field by field.
use Rattle.record.proofs.Laws.{action_done}
use Rattle.laws.proofs.Fields.{action_end_le}
use native.Mathlib.Omega.{arith}
use Rattle.record.proofs.check_action.Goals as goal

pub overflow_cast-result : goal.overflow_cast-result
overflow_cast-result c = record { fits = omega (arith, c.in-Some.ensures.1, action_end_le c.args.bytes.now c.args.at) }

pub returns : goal.returns
returns c = action_done _ _ _ c.in-Some.ensures
