use Rattle.record.proofs.Laws.{there, stopped_stage, facts_step, facts_turn, facts_none}
use Rattle.planning.specs.Basics.{answer}
use mathlib.Core.Path.{refl, ◌∙◌}
use Prim.Native.Nat.{◌+◌, ◌*◌}
use native.Mathlib.Omega.{arith}
use Rattle.laws.proofs.Fields.{bits_at_below}
use Rattle.record.proofs.check_facts.Goals as goal

pub returns-in_err-v : goal.returns-in_err-v
returns-in_err-v c =
    rw (c.loop-i.invariant ∙ facts_step _ _ _ _ _ (omega arith)) (stopped_stage _ _ _ c.from_residual.ensures.1 _ _ _ _ c.in_err-v.ensures)

pub overflow_add-low : goal.overflow_add-low
overflow_add-low c = record { fits = omega (arith, (there _ _ _ c.in_ok-v.ensures).1, bits_at_below c.args.bytes.now (c.args.from + 12 * c.loop-i.i) 6) }

pub loop-i-preserved : goal.loop-i-preserved
loop-i-preserved c = c.loop-i.invariant ∙ facts_turn _ _ _ _ _ (omega arith) _ (there _ _ _ c.in_ok-v.ensures)

pub returns : goal.returns
unfolding answer
returns c = rw (c.loop-i.invariant ∙ facts_none _ _ _ _ _ (omega arith)) refl
