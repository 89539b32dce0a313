-- Each field of at most 57 bits lies within the eight bytes that the window is taken from.
use native.Mathlib.Omega.{arith}
use Rattle.bits.proofs.Window.{bits_at_window}
use Rattle.bits.proofs.window_at.Goals as goal

pub window_from-requires : goal.window_from-requires
window_from-requires c = (omega arith, omega (arith, c.window_start-j.ensures.2 1 (omega arith) (omega arith)))

pub returns : goal.returns
returns c = bits_at_window _ _ _ _ c.window_start-j.ensures.0 c.window_start-j.ensures.2 c.window_from.ensures
