-- Two halves of 16 bits are the field of 32.
use mathlib.Core.Path.{sym}
use Prim.Native.Nat.{◌^◌, ◌<◌}
use native.Mathlib.Omega.{arith}
use Rattle.laws.proofs.Fields.{bits_at_below}
use Rattle.bits.proofs.Window.{bits_at_add}
use Rattle.sheet.proofs.cost_in.Goals as goal
use Rattle.sheet.proofs.cost_in.Goals.{After-read_bits, After-read_bits-2}

first : (c : After-read_bits) → c.read_bits.result < 2 ^ 16
first c = rw c.read_bits.ensures (bits_at_below _ _ 16)

second : (c : After-read_bits-2) → c.read_bits-2.result < 2 ^ 16
second c = rw c.read_bits-2.ensures (bits_at_below _ _ 16)

pub overflow_mul-result : goal.overflow_mul-result
overflow_mul-result c = omega (arith, first (goal.at.overflow_mul-result c).After-read_bits)

pub overflow_add-result : goal.overflow_add-result
overflow_add-result c = omega (arith, first (goal.at.overflow_add-result c).After-read_bits, second (goal.at.overflow_add-result c).After-read_bits-2)

pub overflow_cast-result : goal.overflow_cast-result
overflow_cast-result c = omega (arith, first (goal.at.overflow_cast-result c).After-read_bits, second (goal.at.overflow_cast-result c).After-read_bits-2)

pub returns : goal.returns
returns c = rw (c.read_bits.ensures, c.read_bits-2.ensures) (sym (bits_at_add c.args.bytes.now 21 16 16))
