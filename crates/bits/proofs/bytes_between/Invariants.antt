-- The bytes passed are read: the number so far is the field of their bits.
use mathlib.Core.Path.{◌≡◌}
use Prim.Native.Nat.{◌*◌}
use Rattle.planning.specs.Basics.{bits_at}
use Rattle.bits.proofs.bytes_between.Given as goal

abbrev pub invariant-loop-b : goal.invariant-loop-b
invariant-loop-b l = l.acc ≡ bits_at l.bytes (l.j * 8) (l.b-index * 8)
