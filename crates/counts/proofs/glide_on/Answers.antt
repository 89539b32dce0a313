use mathlib.Core.Path.{◌≡◌, sym, ◌∙◌, ap, subst}
use Prim.Native.Nat.{ℕ, ◌+◌, ◌<◌}
use native.Mathlib.Omega.{arith}
use lib.ListN.{get_or}
use Rattle.planning.specs.Runs.{actions}
use Rattle.laws.proofs.Tests.{true→T}
use Rattle.task.specs.Task.{task_in}
use Rattle.counts.specs.declared.Counts.{Counts}
use Rattle.counts.specs.Counting.{Few}
use Rattle.counts.proofs.Plainly.{gliding_start, gliding_more, entry_behind, passed_steps, passed_few}
use Rattle.counts.proofs.glide_on.Goals as goal
use Rattle.counts.proofs.glide_on.Goals.{After-from-i}

pub loop-x-init : goal.loop-x-init
loop-x-init c = record { gliding = gliding_start _ _ _ _ _ _ c.requires.2; few = c.requires.1; place = omega arith }

-- the entry that a turn looks at
entry : (c : After-from-i) → c.from-i.result ≡ get_or c.args.plan.now c.loop-x.counts.steps 0
entry c = entry_behind _ _ _ _ _ c.loop-x.invariant.place (omega (arith, c.loop-x-test.true)) c.from-i.ensures

pub passed-counts-requires : goal.passed-counts-requires
passed-counts-requires c =
    let l = c.requires.4 c.loop-x.counts.steps (omega (arith, c.loop-x-test.true, c.loop-x.invariant.place)) in (
      c.requires.0,
      subst (λ (x : ℕ). x < actions (task_in c.args.task.now)) (sym (entry (goal.at.passed-counts-requires c).After-from-i)) l,
      record { few = c.loop-x.invariant.few; more = omega (arith, c.loop-x-test.true, c.loop-x.invariant.place, c.requires.3) },
    )

pub loop-x-preserved : goal.loop-x-preserved
loop-x-preserved c =
    let b = c.loop-x-test.true in
    let I = c.loop-x.invariant in
    let own = true→T _ (sym c.is_listed.ensures ∙ c.if-not-is_listed.false) in
    let few = passed_few _ _ (c.requires.0.formed.cost_below _) I.few (omega (arith, b, c.requires.3)) in
    let more : c.passed-counts.result.steps ≡ c.loop-x.counts.steps + 1 = ap (λ (x : Counts). x.steps) c.passed-counts.ensures ∙ passed_steps _ _ in
    record {
      gliding = gliding_more _ _ _ _ _ _ _ _ I.gliding (omega (arith, b, I.place)) _ (entry (goal.at.loop-x-preserved c).After-from-i) own _ _ c.step-now.ensures c.passed-counts.ensures;
      few = subst (λ (x : Counts). Few x) (sym c.passed-counts.ensures) few;
      place = omega (arith, more, I.place);
    }
