use borrow.Author.Rules.{rules}
use mathlib.Core.Path.{refl, sym, ◌∙◌}
use Prim.Native.Nat.{◌<◌}
use native.Mathlib.Omega.{arith}
use Rattle.forward_run.proofs.Running.{goals_listed}
use Rattle.forward_run.proofs.Looping.{looping_start, looping_solved, looping_none, looping_drop, drop_less, take_room, looping_take, take_less}
use Rattle.forward_run.proofs.run_by.Goals as goal
use Rattle.forward_run.proofs.run_by.Goals.{Then-not-has_effects}

pub loop-g-init : goal.loop-g-init
loop-g-init c =
    let p = c.requires in
    (looping_start p.0 p.1 (goals_listed _ c.load-found.result _ c.load-found.ensures (search rules) c.listed-goals.ensures) p.3 c.initial-s.ensures c.settle_each.ensures.settled, c.settle_each.ensures.same)

pub wake-requires : goal.wake-requires
wake-requires c =
    let I = c.loop-g.invariant.0 in
    (I.loaded, I.facts, rw c.loop-g.invariant.1 I.settled)

pub unmet-g-requires : goal.unmet-g-requires
unmet-g-requires c = let I = c.loop-g.invariant.0 in (I.met.to, λ k _ h. I.goals_are.small k h)

-- where the goals are reached, and where no action adds a fact
pub returns-then-g-goals : goal.returns-then-g-goals
returns-then-g-goals c = looping_solved c.loop-g.invariant.0 (rw c.loop-g.invariant.1 at c.wake.ensures.settled) c.unmet-g.ensures c.if-g-goals.true _ refl refl refl

pub returns-in_default : goal.returns-in_default
returns-in_default c = looping_none c.loop-g.invariant.0 (rw c.loop-g.invariant.1 at c.wake.ensures.settled) c.unmet-g.ensures c.if-g-goals.false c.in_default.ensures _ refl refl refl

-- an action that adds a fact has room in the plan
room : (c : Then-not-has_effects) → c.loop-g.steps < 1024
room c =
    take_room c.loop-g.invariant.0 (rw c.loop-g.invariant.1 at c.wake.ensures.settled) c.unmet-g.ensures c.if-g-goals.false c.in-Some.ensures c.from-i.ensures c.unmark.ensures
    (sym c.has_effects.ensures ∙ c.if-not-has_effects.true)

pub offset_bounds-plan-steps : goal.offset_bounds-plan-steps
offset_bounds-plan-steps c = record { fits = omega (arith, room c) }

pub bounds-plan-steps : goal.bounds-plan-steps
bounds-plan-steps c = room (goal.at.bounds-plan-steps c).Then-not-has_effects

pub overflow_add-steps : goal.overflow_add-steps
overflow_add-steps c = record { fits = omega (arith, room (goal.at.overflow_add-steps c).Then-not-has_effects) }

pub loop-g-smaller-then-not-has_effects : goal.loop-g-smaller-then-not-has_effects
loop-g-smaller-then-not-has_effects c =
    take_less c.loop-g.invariant.0 (rw c.loop-g.invariant.1 at c.wake.ensures.settled) c.unmet-g.ensures c.if-g-goals.false c.in-Some.ensures c.from-i.ensures c.unmark.ensures
    (sym c.has_effects.ensures ∙ c.if-not-has_effects.true) _ c.step-s.ensures c.effects-reached.ensures

pub loop-g-preserved-then-not-has_effects : goal.loop-g-preserved-then-not-has_effects
loop-g-preserved-then-not-has_effects c = (
  looping_take c.loop-g.invariant.0 (rw c.loop-g.invariant.1 at c.wake.ensures.settled) c.unmet-g.ensures c.if-g-goals.false c.in-Some.ensures c.from-i.ensures c.unmark.ensures
      (sym c.has_effects.ensures ∙ c.if-not-has_effects.true) _ c.step-s.ensures c.effects-reached.ensures,
  c.wake.ensures.same ∙ c.loop-g.invariant.1,
)

pub loop-g-smaller : goal.loop-g-smaller
loop-g-smaller c =
    drop_less c.loop-g.invariant.0 (rw c.loop-g.invariant.1 at c.wake.ensures.settled) c.unmet-g.ensures c.if-g-goals.false c.in-Some.ensures c.from-i.ensures c.unmark.ensures
    (sym c.has_effects.ensures ∙ c.if-not-has_effects.false) c.wake.ensures.ready_unchanged

pub loop-g-preserved : goal.loop-g-preserved
loop-g-preserved c = (
  looping_drop c.loop-g.invariant.0 (rw c.loop-g.invariant.1 at c.wake.ensures.settled) c.unmet-g.ensures c.if-g-goals.false c.in-Some.ensures c.from-i.ensures c.unmark.ensures
      (sym c.has_effects.ensures ∙ c.if-not-has_effects.false),
  c.wake.ensures.same ∙ c.loop-g.invariant.1,
)
