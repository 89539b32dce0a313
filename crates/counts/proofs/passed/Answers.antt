-- One run more where all steps so far did, which is what the action adds as it applies.
use mathlib.Core.Path.{◌∙◌}
use native.Mathlib.Omega.{arith}
use Rattle.counts.proofs.Counting.{cost_is}
use Rattle.counts.proofs.Plainly.{passed_is}
use Rattle.counts.proofs.passed.Goals as goal

pub overflow_add-result-3 : goal.overflow_add-result-3
overflow_add-result-3 c =
    let p = c.requires in
    omega (arith, c.cost.ensures, cost_is _ _ p.1, p.0.formed.cost_below c.args.i, p.2.few.cost, p.2.more)

pub returns : goal.returns
returns c = passed_is _ _ _ _ c.from.ensures (c.cost.ensures ∙ cost_is _ _ c.requires.1)
