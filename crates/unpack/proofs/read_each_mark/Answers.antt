use Prim.Native.Nat.{◌^◌, ◌<◌}
use native.Mathlib.Omega.{arith}
use Rattle.unpack.proofs.Copying.{copying_one, copying_end}
use Rattle.sheet.proofs.Rows.{marks_at_row}
use Rattle.laws.proofs.Fields.{bits_at_below}
use Rattle.unpack.proofs.read_each_mark.Goals as goal
use Rattle.unpack.proofs.read_each_mark.Goals.{After-read_bits}

one : (c : After-read_bits) → c.read_bits.result < 2 ^ 1
one c = rw c.read_bits.ensures (bits_at_below _ _ 1)

pub overflow_cast-marks : goal.overflow_cast-marks
overflow_cast-marks c = omega (arith, one (goal.at.overflow_cast-marks c).After-read_bits)

pub loop-i-preserved : goal.loop-i-preserved
loop-i-preserved c = copying_one _ _ _ _ _ _ _ c.loop-i.invariant _ (omega arith) c.read_bits.ensures

pub returns : goal.returns
returns c =
    rw (marks_at_row) (copying_end _ _ _ _ _ _ _ c.loop-i.invariant (omega arith))
