use mathlib.Core.Path.{◌∙◌}
use native.Mathlib.Omega.{arith}
use lib.Bits.{or_add_and, and_le_l, and_le_r}
use lib.ListN.{get_or}
use Rattle.sheet.proofs.Entries.{entry_passes, no_entry_left}
use Rattle.sheet.proofs.excess.Goals as goal

pub loop-x-preserved : goal.loop-x-preserved
loop-x-preserved c = λ z.
    let x = c.loop-x.any in
    let y = get_or c.args.list.now c.loop-x.x-index 0 in
    c.loop-x.invariant (omega (arith, or_add_and x y, and_le_r x y)) ∙ entry_passes 1024 _ _ (omega arith) (omega (arith, or_add_and x y, and_le_l x y))

pub returns : goal.returns
returns c = λ z. c.loop-x.invariant (omega arith) ∙ no_entry_left 1024 _ _ (omega arith)
