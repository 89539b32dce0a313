use mathlib.Core.Path.{◌≡◌}
use native.Mathlib.Omega.{arith}
use lib.ListN.{length}
use Rattle.entries.proofs.Lists.{leading_turn, leading_stop, leading_end}
use Rattle.entries.proofs.leading.Goals as goal

pub returns-then-n-from : goal.returns-then-n-from
returns-then-n-from c = (leading_stop _ _ _ c.loop-k.invariant (omega arith) (omega arith), omega arith)

pub loop-k-preserved : goal.loop-k-preserved
loop-k-preserved c = leading_turn _ _ _ c.loop-k.invariant (omega arith) (omega arith)

pub returns : goal.returns
returns c =
    let end : c.loop-k.k ≡ length c.args.list.now = omega arith in
    (rw end at (leading_end _ _ _ c.loop-k.invariant (omega arith)), omega arith)
