-- The cost that the list has for an action is the action's.
use mathlib.Core.Path.{refl, ap, ◌∙◌}
use Prim.Native.Nat.{◌+◌}
use native.Mathlib.Omega.{arith}
use Rattle.counts.proofs.Counting.{cost_is}
use Rattle.counts.proofs.counted.Goals as goal

pub overflow_add-result-2 : goal.overflow_add-result-2
overflow_add-result-2 c =
    let p = c.requires in
    omega (arith, c.cost.ensures, cost_is _ _ p.1, p.0.formed.cost_below c.args.i, p.2.few.cost, p.2.more)

pub returns : goal.returns
returns c = record { steps = refl; runs = c.further.ensures; cost = ap (λ x. c.args.c.cost + x) (c.cost.ensures ∙ cost_is _ _ c.requires.1) }
