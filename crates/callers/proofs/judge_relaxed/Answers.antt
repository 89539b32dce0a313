use mathlib.Core.Path.{refl, sym, ◌∙◌}
use native.Mathlib.Omega.{arith}
use Rattle.applying.proofs.RedBlackSteps.{step_held}
use Rattle.callers.proofs.Going.{going_at, going_turn, going_stop, going_end}
use Rattle.callers.proofs.judge_relaxed.Goals as goal

pub loop-k-init : goal.loop-k-init
loop-k-init c = going_at _ _ _ _ _ c.requires.1.runs c.requires.1.held

pub returns-then-not-applies : goal.returns-then-not-applies
returns-then-not-applies c =
    c.judge_at.ensures ∙ going_stop _ _ _ _ _ c.loop-k.invariant _ _ (omega arith) c.from-i.ensures refl (sym c.applies.ensures ∙ c.if-not-applies.true)

pub loop-k-preserved-then-has_effects : goal.loop-k-preserved-then-has_effects
loop-k-preserved-then-has_effects c =
    going_turn _ _ _ _ _ c.loop-k.invariant _ _ _ (omega arith) c.from-i.ensures refl (sym c.applies.ensures ∙ c.if-not-applies.false)
    (step_held _ _ (sym c.has_effects.ensures ∙ c.if-has_effects.true))

pub loop-k-preserved : goal.loop-k-preserved
loop-k-preserved c =
    going_turn _ _ _ _ _ c.loop-k.invariant _ _ _ (omega arith) c.from-i.ensures refl (sym c.applies.ensures ∙ c.if-not-applies.false) c.step-s.ensures.sets_value

pub returns : goal.returns
returns c = c.judge_at-2.ensures ∙ going_end _ _ _ _ _ c.loop-k.invariant (omega arith) c.requires.0.entries
