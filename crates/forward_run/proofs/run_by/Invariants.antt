-- In each turn the effects of the action taken last wake what waits for them, and the action of lowest rank leaves the ready ones. If it
-- adds a fact it is the definition's next action: it is taken, and the state grows. If not, it never will add one. Either way less is left.
use mathlib.Core.Path.{◌≡◌}
use Rattle.forward_run.proofs.Looping.{Looping, left}
use Rattle.forward_run.proofs.run_by.Given as goal

abbrev pub invariant-loop-g : goal.invariant-loop-g
invariant-loop-g l = Looping l.task l.order l.goals l.plan l.s.sets l.work l.waits.ready l.steps l.g l.reached × (l.waits.order.now ≡ l.order)

abbrev pub decreases-loop-g : goal.decreases-loop-g
decreases-loop-g l = left l.task l.s.sets l.waits.ready l.reached
