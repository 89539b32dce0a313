use mathlib.Core.Path.{◌≡◌, refl, sym, ◌∙◌}
use mathlib.Core.Bool.{true}
use native.Mathlib.Omega.{arith}
use lib.ListN.{length}
use Rattle.planning.specs.Runs.{holds, act, black}
use Rattle.task.specs.Task.{task_in}
use Rattle.sets.specs.Sets.{sets_of, values_of, red_black_of}
use Rattle.applying.proofs.Knowing.{known_none, known_held}
use Rattle.execution.proofs.Tracing.{tracing_few, tracing_stop, tracing_end, applied, painted_by, following_start, following_turn, following_held, follows_painted, follows_real, follows_relaxed}
use Rattle.execution.proofs.follow.Goals as goal
use Rattle.execution.proofs.follow.Goals.{Joined-else-runs-k, else-runs-k-via-then-runs-k+else-not-applies, else-runs-k-via-else-runs-k}

pub loop-k-init : goal.loop-k-init
loop-k-init c = record {
  following = following_start _ _ _ _ c.initial-s.ensures.sets_value c.initial-s.ensures.values_after;
  known = known_none _ _ _ refl;
}

pub further-runs-requires : goal.further-runs-requires
further-runs-requires c =
    let R = c.requires in
    (R.loaded, rw c.from-i.ensures (R.entries c.loop-k.k c.loop-k-test.true), omega (arith, R.short, tracing_few _ _ _ _ _ _ c.loop-k.invariant.following.traced))

goes : (j : Joined-else-runs-k) → holds (red_black_of (black (task_in j.args.task.now)) (sets_of j.loop-k.s.sets) (values_of j.loop-k.s.newest.values)) (act (task_in j.args.task.now) j.from-i.result).pre ≡ true
goes j =
    elim j.else-runs-k.branch [
      | else-runs-k-via-then-runs-k+else-not-applies w ↦ painted_by _ _ _ j.painted-paint.ensures w.applies.ensures w.if-not-applies.false
      | else-runs-k-via-else-runs-k w ↦
          applied _ _ j.requires.loaded.formed _ _ _ _ j.loop-k.invariant.following.traced j.loop-k-test.true _ j.from-i.ensures _ j.further-runs.ensures (omega (arith, w.if-runs-k.false))
    ]

pub loop-k-preserved-then-knows_effects : goal.loop-k-preserved-then-knows_effects
loop-k-preserved-then-knows_effects c =
    let held = sym c.knows_effects.ensures.value ∙ c.if-knows_effects.true in
    let I = c.loop-k.invariant in
    record {
      following = following_held _ _ c.requires.loaded.formed _ _ _ _ I.following c.loop-k-test.true _ c.from-i.ensures _ _ c.further-runs.ensures (goes (goal.at.loop-k-preserved-then-knows_effects c).Joined-else-runs-k) held c.step-newest.ensures;
      known = known_held _ _ _ _ held c.knows_effects.ensures.known;
    }

pub loop-k-preserved : goal.loop-k-preserved
loop-k-preserved c =
    let E = c.step-s.ensures in
    let I = c.loop-k.invariant in
    record {
      following = following_turn _ _ c.requires.loaded.formed _ _ _ _ I.following c.loop-k-test.true _ c.from-i.ensures _ _ _ c.further-runs.ensures (goes (goal.at.loop-k-preserved c).Joined-else-runs-k) E.sets_value E.values_after;
      known = rw E.sets_value c.knows_effects.ensures.known;
    }

pub returns : goal.returns
returns c =
    let h : c.loop-k.k ≡ length c.args.list.now = omega arith in
    let I = rw h at c.loop-k.invariant.following in
    let e = tracing_end _ _ _ _ _ _ I.traced (omega arith) in
    record { black_ones = c.painted-paint.ensures; painted = follows_painted _ _ _ _ _ _ I e.0; run_real = follows_real _ _ _ _ _ _ I e.0 _ e.1; relaxed' = follows_relaxed _ _ _ _ _ _ I e.0 }

pub returns-then-not-applies : goal.returns-then-not-applies
returns-then-not-applies c =
    let I = c.loop-k.invariant.following in
    let fails = painted_by _ _ _ c.painted-paint.ensures c.applies.ensures c.if-not-applies.true in
    let e = tracing_stop _ _ c.requires.loaded.formed _ _ _ _ I.traced c.loop-k-test.true _ c.from-i.ensures _ c.further-runs.ensures c.if-runs-k.true fails in
    record { black_ones = c.painted-paint.ensures; painted = follows_painted _ _ _ _ _ _ I e.0; run_real = follows_real _ _ _ _ _ _ I e.0 _ e.1; relaxed' = follows_relaxed _ _ _ _ _ _ I e.0 }
