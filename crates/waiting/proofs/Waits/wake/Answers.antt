use native.Mathlib.Omega.{arith}
use Prim.Native.Nat.{◌+◌}
use Rattle.sets.proofs.Slices.{facts_of_end}
use Rattle.waiting.proofs.Places.{has_less, rest_taken}
use Rattle.waiting.proofs.Chains.{sites_off}
use Rattle.waiting.proofs.Waits.wake.Goals as goal

pub settle_all-requires : goal.settle_all-requires
settle_all-requires c =
    rw (rest_taken c.args.facts.now (c.loop-k.k + 1), c.loop-k.invariant.2)
    (c.requires.0, sites_off c.loop-k.invariant.0 _ (omega (arith, c.from-f.ensures, c.requires.1 c.loop-k.k c.loop-k-test.true)) _ (has_less _ _ _ c.loop-k-test.true c.from-f.ensures))

pub returns-clause-settled : goal.returns-clause-settled
returns-clause-settled c = rw (facts_of_end c.args.facts.now c.loop-k.k c.loop-k-test.false) at c.loop-k.invariant.0
