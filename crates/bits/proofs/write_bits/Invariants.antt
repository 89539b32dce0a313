-- One byte a turn: the bytes passed hold the front of the number.
use mathlib.Core.Path.{◌≡◌}
use lib.ListN.{length}
use lib.Seq.{paste}
use Rattle.planning.specs.Sheet.{bits_of, packed}
use Rattle.bits.proofs.write_bits.Given as goal

abbrev pub invariant-loop-i : goal.invariant-loop-i
invariant-loop-i l = (length l.bytes ≡ length l.initial.bytes) × (l.bytes ≡ paste l.initial.bytes l.at (packed l.count (bits_of l.width l.value)) l.i)
