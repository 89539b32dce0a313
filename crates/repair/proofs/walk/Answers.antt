use Rattle.std.proofs.Common.{◌≡◌, List, [], ℕ, ◌-◌, ◌<◌, ◌≤◌, T, length, take, drop, arith, refl, sym, ◌∙◌}
use borrow.Author.Tests.{ltb-true}
use lib.Seq.{length-take-le}
use Rattle.planning.specs.Runs.{runs, actions, act, black, initial}
use Rattle.planning.specs.Repair.{repaired}
use Rattle.laws.proofs.Plans.{is_plan_elim}
use Rattle.laws.proofs.Painting.{repaired_is_plan}
use Rattle.task.specs.Task.{task_in}
use Rattle.sets.specs.Sets.{values_of}
use Rattle.counts.specs.declared.Counts.{Counts}
use Rattle.counts.specs.Counting.{no_counts}
use Rattle.counts.proofs.Marking.{part_length, area_kept, marks_front}
use Rattle.counts.proofs.Plainly.{plain_none, plain_held}
use Rattle.repair.specs.Repairs.{Repairable}
use Rattle.repair.proofs.Repairing.{repairing_start, repairing_within, repairing_few, repairing_searches, repairing_small, repairing_below, repairing_step}
use Rattle.repair.proofs.Repairing.{Arranged, repairing_long, repairing_fits, repairing_modest, repairing_places, repairing_turn, rest_is, rest_entries}
use Rattle.repair.proofs.Ending.{repairing_held, held_long}
use Rattle.repair.proofs.Gliding.{repairing_glides}
use Rattle.repair.proofs.walk.Goals as goal
use Rattle.repair.proofs.walk.Goals.{After-stage, After-from-i, Then-c-at-2, else-c-at+then-j-list, then-c-at}

-- a stage is left where one is placed
here_of : (e : Then-c-at-2) → e.loop-c.j ≤ length e.args.list.now
here_of e = elim e.if-c-at.branch [ then-c-at w ↦ absurd (omega (arith, w.if-c-at.true, e.if-c-at-2.true)) | else-c-at+then-j-list w ↦ w.if-j-list.true ]

arranged : (c : After-stage) → let a = c.args in let l = c.loop-c in l.j ≤ length a.list.now →
    Arranged (task_in a.task.now) a.list.now a.plan.now l.plan l.marks l.memo l.s.sets (values_of l.s.newest.values) l.c l.searched l.at l.j (take (length a.list.now - l.j) (drop l.j a.list.now)) c.stage.new.plan
arranged c h = record {
  start = c.loop-c.invariant.0;
  taken = c.if-c-at-2.true;
  here = h;
  part = rest_is c.args.list.now c.loop-c.j h;
  long = c.stage.auto.plan;
}

-- a step is left
less : (c : After-from-i) → let l = c.loop-c in l.c.steps < l.at
less c = omega (arith, c.if-c-at-2.false, c.loop-c.invariant.0.taken)

below : (c : After-from-i) → c.from-i.result < actions (task_in c.args.task.now)
below c = repairing_below c.loop-c.invariant.0 (less c) _ c.from-i.ensures

-- the whole list runs red-black
whole_runs : (task list : List ℕ) → Repairable task list → let t = task_in task in T (runs (act t) (black t) (repaired t list) (initial t))
whole_runs task list R =
    let P = R.prepared in
    let t = task_in task in
    (is_plan_elim t (black t) _ (repaired_is_plan t P.loaded.formed P.acyclic P.returns _ R.is_red_black_plan)).runs'

none_counted : (s r k : ℕ) → s ≡ 0 → r ≡ 0 → k ≡ 0 → ◌≡◌ {A = Counts} (record { steps = s; runs = r; cost = k }) no_counts
none_counted s r k a b d = rw (a, b, d) refl

pub loop-c-init : goal.loop-c-init
loop-c-init c =
    let e = c.initial-s.ensures in
    let p = c.requires in
    let z = c.default-c.ensures in
    (rw (none_counted _ _ _ z.0 z.1.0 z.1.1) (repairing_start _ _ _ _ _ _ _ (p.3 _) e.sets_value e.values_after p.2), plain_none _ _ _ refl)

pub stage-requires-clause-prepared : goal.stage-requires-clause-prepared
stage-requires-clause-prepared c =
    let G = c.loop-c.invariant.0 in
    let entries = rest_entries c.args.list.now c.loop-c.j (here_of (goal.at.stage-requires-clause-prepared c).Then-c-at-2) (task_in c.args.task.now) c.requires.0.entries in
    (c.requires.0.prepared, entries, repairing_within G, omega (arith, G.long, c.requires.1))

pub returns-in_default : goal.returns-in_default
returns-in_default c =
    let k = goal.at.returns-in_default c in
    let long = c.stage.auto.plan ∙ c.loop-c.invariant.0.long in
    held_long _ _ _ _ _ _ (rw long at c.too_long.ensures) (repairing_long (arranged k.After-stage (here_of k.Then-c-at-2)) c.in_default.ensures.put)

pub mark-requires : goal.mark-requires
mark-requires c =
    let k = goal.at.mark-requires c in
    let places = repairing_places (arranged k.After-stage (here_of k.Then-c-at-2)) _ _ c.in-Some.ensures.put c.in-Some.ensures.searched in
    λ e. omega (arith, places.2 (ltb-true _ _ e), part_length c.loop-c.marks [] c.loop-c.at c.in-Some.w.end places.0 places.1)

pub overflow_add-searched : goal.overflow_add-searched
overflow_add-searched c =
    let k = goal.at.overflow_add-searched c in
    let R = arranged k.After-stage (here_of k.Then-c-at-2) in
    let put = c.in-Some.ensures.put in
    let n = c.in-Some.ensures.searched in
    record { fits = omega (arith, repairing_modest R _ _ put n c.requires.0.prepared.loaded.formed, repairing_fits R _ _ put n, R.here, c.requires.1) }

pub loop-c-preserved-then-c-at-2 : goal.loop-c-preserved-then-c-at-2
loop-c-preserved-then-c-at-2 c =
    let k = goal.at.loop-c-preserved-then-c-at-2 c in
    let R = c.requires.0 in
    let here = here_of k.Then-c-at-2 in
    let entries = rest_entries c.args.list.now c.loop-c.j here (task_in c.args.task.now) R.entries in
    let places = repairing_places (arranged k.After-stage here) _ _ c.in-Some.ensures.put c.in-Some.ensures.searched in (
      repairing_turn (arranged k.After-stage here) _ _ c.in-Some.ensures.put c.in-Some.ensures.searched R.prepared.loaded.formed entries _ _ c.in-Some.ensures.memo_2
          (area_kept c.loop-c.marks c.mark.new.marks _ _ places.0 places.1 c.mark.auto.marks) (marks_front c.loop-c.marks c.mark.new.marks _ _ places.0 places.1 _ (λ e. places.2 (ltb-true _ _ e)) c.mark.ensures),
      c.loop-c.invariant.1,
    )

pub effects_held-requires : goal.effects_held-requires
effects_held-requires c =
    (c.requires.0.prepared.loaded, below (goal.at.effects_held-requires c).After-from-i, c.loop-c.invariant.1)

pub glide-g-requires : goal.glide-g-requires
glide-g-requires c =
    let p = c.requires in
    let L = p.0.prepared.loaded in
    let G = c.loop-c.invariant.0 in
    let front = length-take-le c.loop-c.at c.loop-c.plan (repairing_within G) in
    (L, repairing_few G L.formed p.1, omega (arith, less (goal.at.glide-g-requires c).After-from-i, front), omega (arith, G.within, p.1, front), G.entries)

pub loop-c-preserved-then-effects_held : goal.loop-c-preserved-then-effects_held
loop-c-preserved-then-effects_held c =
    let F = c.requires.0.prepared.loaded.formed in
    let held = sym c.effects_held.ensures.value ∙ c.if-effects_held.true in
    let P = plain_held _ _ _ _ held c.effects_held.ensures.plain in
    (repairing_glides F _ P (whole_runs _ _ c.requires.0) c.loop-c.invariant.0 (less (goal.at.loop-c-preserved-then-effects_held c).After-from-i) _ c.from-i.ensures held _ c.glide-g.ensures, P)

pub counted-c-requires : goal.counted-c-requires
counted-c-requires c =
    let p = c.requires in
    let L = p.0.prepared.loaded in
    let k = (goal.at.counted-c-requires c).After-from-i in
    (L, below k, repairing_small c.loop-c.invariant.0 (less k) _ c.from-i.ensures L.formed p.1)

pub refresh-requires-clause-loaded : goal.refresh-requires-clause-loaded
refresh-requires-clause-loaded c =
    (c.requires.0.prepared.loaded, below (goal.at.refresh-requires-clause-loaded c).After-from-i, c.needs-needs.ensures)

pub step-s-requires : goal.step-s-requires
step-s-requires c = (c.requires.0.prepared.loaded, below (goal.at.step-s-requires c).After-from-i)

pub loop-c-preserved : goal.loop-c-preserved
loop-c-preserved c =
    let now = c.step-s.ensures.sets_value in (
      repairing_step c.loop-c.invariant.0 (less (goal.at.loop-c-preserved c).After-from-i) _ c.from-i.ensures c.requires.0.prepared.loaded.formed _ _ _ _
          (rw now c.refresh.ensures) now c.counted-c.ensures c.step-s.ensures.values_after,
      rw now c.effects_held.ensures.plain,
    )

pub verdict-requires : goal.verdict-requires
verdict-requires c =
    let p = c.requires in
    let L = p.0.prepared.loaded in
    (L, repairing_few c.loop-c.invariant.0 L.formed p.1, repairing_searches c.loop-c.invariant.0 p.1)

-- in the end every step is taken, and every stage placed
pub returns : goal.returns
returns c = repairing_held c.loop-c.invariant.0 c.requires.0.prepared.loaded.formed (omega (arith, c.if-c-at.false, c.loop-c.invariant.0.taken)) c.if-j-list.false _ c.verdict.ensures
