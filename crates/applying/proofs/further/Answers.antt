-- The step counts if it is the next one and applies; else the count stays.
use mathlib.Core.Path.{sym, ◌∙◌}
use native.Mathlib.Omega.{arith}
use Rattle.applying.proofs.Running.{further_on, further_fails, further_stopped}
use Rattle.applying.proofs.further.Goals as goal
use Rattle.applying.proofs.further.Goals.{else-runs-steps-via-then-runs-steps+else-applies, else-runs-steps-via-else-runs-steps}

pub returns-then-applies : goal.returns-then-applies
returns-then-applies c = further_on _ _ _ (omega arith) (sym c.applies.ensures ∙ c.if-applies.true)

pub returns : goal.returns
returns c =
    elim c.else-runs-steps.branch [
      | else-runs-steps-via-then-runs-steps+else-applies w ↦ further_fails _ _ _ (sym w.applies.ensures ∙ w.if-applies.false)
      | else-runs-steps-via-else-runs-steps w ↦ further_stopped _ _ _ w.if-runs-steps.false
    ]
