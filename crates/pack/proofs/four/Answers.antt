-- Each number is shifted to its place.
use Prim.Native.Nat.{◌*◌, ◌^◌, ◌≤◌}
use native.Mathlib.Omega.{arith}
use lib.Pow.{pow_mono}
use Rattle.pack.proofs.Fields.{four_shifted}
use Rattle.pack.proofs.four.Goals as goal
use Rattle.pack.proofs.four.Goals.{Start}

below : (c : Start) → 2 ^ (4 * c.args.width) ≤ 2 ^ 44
below c = pow_mono {j = 44} (omega (arith, c.requires.0))

pub overflow_add-result : goal.overflow_add-result
overflow_add-result c =
    let r = c.requires in
    omega (arith, four_shifted _ _ _ _ _ r.1 r.2 r.3 r.4 r.0, below c)

pub overflow_add-result-2 : goal.overflow_add-result-2
overflow_add-result-2 c =
    let r = c.requires in
    omega (arith, four_shifted _ _ _ _ _ r.1 r.2 r.3 r.4 r.0, below c)

pub overflow_add-result-3 : goal.overflow_add-result-3
overflow_add-result-3 c =
    let r = c.requires in
    omega (arith, four_shifted _ _ _ _ _ r.1 r.2 r.3 r.4 r.0, below c)

pub returns : goal.returns
returns c = let r = c.requires in four_shifted _ _ _ _ _ r.1 r.2 r.3 r.4 r.0
