-- Four steps, each below 1,024.
use Prim.Native.Nat.{◌+◌, ◌^◌, ◌≤◌}
use native.Mathlib.Omega.{arith}
use mathlib.Core.Path.{refl, ◌∙◌}
use lib.Pow.{pow_mono}
use Rattle.pack.proofs.steps_at.Goals as goal

pub four-requires : goal.four-requires
four-requires c =
    let s = c.requires.3 in
    let i = c.args.i in
    let m : 2 ^ 10 ≤ 2 ^ c.args.width = pow_mono c.requires.0 in
    (omega arith, omega (arith, s i), omega (arith, s (i + 1)), omega (arith, s (i + 2)), omega (arith, s (i + 3)))

pub returns : goal.returns
returns c = (c.four.ensures.0 ∙ rw (c.from.ensures, c.from-2.ensures, c.from-3.ensures, c.from-4.ensures) refl, c.four.ensures.1)
