-- The front of 64 bits.
use Prim.Native.Nat.{◌*◌, ◌-◌}
use native.Mathlib.Nat.{lt_of_lt_of_le}
use native.Mathlib.Omega.{arith}
use lib.Pow.{pow_mono}
use Rattle.laws.proofs.Fields.{bits_at_below}
use Rattle.unpack.proofs.Words.{bits_front}
use Rattle.unpack.proofs.front.Goals as goal

pub returns : goal.returns
returns c =
    let a = c.args in
    let e = bits_front a.bytes.now (a.at * 8) 64 _ a.count (64 - a.count) c.long_word.ensures (omega arith) in
    (e, rw e (lt_of_lt_of_le (bits_at_below a.bytes.now (a.at * 8) a.count) (pow_mono {j = 49} c.requires.1)))
