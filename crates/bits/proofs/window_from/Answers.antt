-- The bits in front are shifted out.
use Rattle.bits.proofs.Window.{bits_at_shl}
use Rattle.bits.proofs.window_from.Goals as goal

pub returns : goal.returns
returns c = λ n h. bits_at_shl _ _ _ n _ h c.long_word.ensures
