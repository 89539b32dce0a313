use borrow.Author.Rules.{rules}
use native.Mathlib.Omega.{arith}
use lib.Count.{ones-le}
use lib.ListN.{get_or}
use mir.Val.{Fits}
use mir.Syntax.{w64}
use Rattle.state.proofs.Count.{size_none, size_more}
use Rattle.state.proofs.Relaxed.reached.Goals as goal

pub loop-set-init : goal.loop-set-init
loop-set-init c = (omega arith, size_none _)

pub loop-set-preserved : goal.loop-set-preserved
loop-set-preserved c =
    let whole : Fits w64 (get_or c.args.self.sets c.loop-set.set-index 0) = search rules in
    let few = ones-le 64 _ whole.fits in
    (omega (arith, few, c.from-sum.ensures), rw c.from-sum.ensures (size_more c.args.self.sets c.loop-set.set-index _ whole.fits c.loop-set.invariant.1))
