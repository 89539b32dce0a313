-- Eight bytes.
use native.Mathlib.Omega.{arith}
use Rattle.bits.proofs.Window.{bits_at_eight}
use Rattle.bits.proofs.long_word.Goals as goal

pub returns : goal.returns
returns c = bits_at_eight _ _ _ (λ k. omega (arith, c.type_inv.bytes k)) c.from_be_bytes.ensures
