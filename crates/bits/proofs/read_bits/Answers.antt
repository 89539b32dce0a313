use native.Mathlib.Omega.{arith}
use Rattle.bits.proofs.Window.{bits_at_field}
use Rattle.bits.proofs.read_bits.Goals as goal

pub returns-then-j-bytes : goal.returns-then-j-bytes
returns-then-j-bytes c = bits_at_field _ _ _ 32 _ _ (omega arith) (omega arith) c.word.ensures

pub returns : goal.returns
returns c = bits_at_field _ _ _ _ _ _ (omega arith) (omega arith) c.bytes_between.ensures
