use Rattle.record.proofs.Laws.{take_there, take_short, bits_at_u32}
use Rattle.planning.specs.Basics.{done}
use mathlib.Core.Path.{ap, ◌∙◌}
use native.Mathlib.Omega.{arith}
use Rattle.record.proofs.take.Goals as goal

pub returns-then-bytes-at : goal.returns-then-bytes-at
returns-then-bytes-at c = take_short _ _ _ _ (omega arith)

pub overflow_cast-result : goal.overflow_cast-result
overflow_cast-result c = record { fits = bits_at_u32 _ _ _ _ c.read_bits.ensures (omega arith) }

pub returns : goal.returns
returns c = ap done c.read_bits.ensures ∙ take_there _ _ _ (omega arith)
