use mathlib.Core.Path.{ap}
use Prim.Native.Nat.{◌/◌}
use native.Mathlib.Omega.{arith}
use lib.Bits.{bit_or}
use lib.ListN.{get_or}
use Rattle.extraction.proofs.Keeping.{joined_one}
use Rattle.extraction.proofs.add.Goals as goal

pub returns-then-a-lt1024 : goal.returns-then-a-lt1024
returns-then-a-lt1024 c =
    let a = c.args in
    let old = get_or a.wanted.now (a.a / 64) 0 in
    joined_one _ _ c.requires _ (omega arith) (ap (bit_or old) c.single.ensures)
