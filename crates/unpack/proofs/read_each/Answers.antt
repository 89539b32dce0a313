use Prim.Native.Nat.{◌^◌, ◌<◌}
use native.Mathlib.Omega.{arith}
use Rattle.unpack.proofs.Copying.{copying_one, copying_end}
use Rattle.sheet.proofs.Rows.{steps_at_row}
use Rattle.laws.proofs.Fields.{bits_at_below}
use Rattle.unpack.proofs.read_each.Goals as goal
use Rattle.unpack.proofs.read_each.Goals.{After-read_bits}

ten : (c : After-read_bits) → c.read_bits.result < 2 ^ 10
ten c = rw c.read_bits.ensures (bits_at_below _ _ 10)

pub overflow_cast-list : goal.overflow_cast-list
overflow_cast-list c = omega (arith, ten (goal.at.overflow_cast-list c).After-read_bits)

pub loop-i-preserved : goal.loop-i-preserved
loop-i-preserved c = copying_one _ _ _ _ _ _ _ c.loop-i.invariant _ (omega arith) c.read_bits.ensures

pub returns : goal.returns
returns c =
    rw (steps_at_row) (copying_end _ _ _ _ _ _ _ c.loop-i.invariant (omega arith))
