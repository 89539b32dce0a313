-- Eight steps a turn, by two stores of four.
use Prim.Native.Nat.{◌*◌}
use Rattle.unpack.proofs.Copying.{Copying}
use Rattle.sheet.proofs.Rows.{row, step_at}
use Rattle.unpack.proofs.read_eights.Given as goal

abbrev pub invariant-loop-k : goal.invariant-loop-k
invariant-loop-k l = Copying (step_at l.bytes 0) 10 l.steps (row (step_at l.bytes 0) 10 53 l.steps) l.initial.list l.list (8 * l.k)
