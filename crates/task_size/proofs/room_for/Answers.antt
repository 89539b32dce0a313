-- Header and number of bytes bound the facts of an accepted record.
use native.Mathlib.Omega.{arith}
use Rattle.record.proofs.Laws.{split_22, header_fits, accepted_parts}
use Rattle.task_size.proofs.Size.{task_size_max, task_size_bits}
use Rattle.task_size.proofs.room_for.Goals as goal

pub returns-then-n-lt3 : goal.returns-then-n-lt3
returns-then-n-lt3 c = λ e. omega (arith, header_fits _ (accepted_parts _ e).header)

pub returns-then-n-gt49315 : goal.returns-then-n-gt49315
returns-then-n-gt49315 c = task_size_max _

pub returns : goal.returns
returns c = let f = split_22 _ _ c.read_bits-head.ensures in λ e. omega (arith, f.1, f.2, task_size_bits _ e)
