use Rattle.std.proofs.Common.{arith}
use Rattle.paths.proofs.Memos.{values_many, values_few}
use Rattle.paths.proofs.has_few_values.Goals as goal

pub returns-then-count-gt15 : goal.returns-then-count-gt15
returns-then-count-gt15 c = values_many _ c.loop-v.v (omega arith) (omega (arith, c.count.ensures))

pub returns : goal.returns
returns c = values_few _ (λ v h. c.loop-v.invariant v (omega arith))
