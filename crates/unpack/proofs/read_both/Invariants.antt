-- Eight steps a turn, by two stores of four, and their marks by one store of eight bytes.
use Prim.Native.Nat.{◌*◌}
use Rattle.unpack.proofs.Copying.{Copying}
use Rattle.sheet.proofs.Rows.{row, step_at, mark_at}
use Rattle.unpack.proofs.read_both.Given as goal

abbrev pub invariant-loop-k : goal.invariant-loop-k
invariant-loop-k l =
    Copying (step_at l.bytes 1) 11 l.steps (row (step_at l.bytes 1) 11 53 l.steps) l.initial.list l.list (8 * l.k) × Copying (mark_at l.bytes 1) 11 l.steps (row (mark_at l.bytes 1) 11 53 l.steps) l.initial.marks l.marks (8 * l.k)
