use mathlib.Core.Path.{◌≡◌, refl, sym, ap, ◌∙◌, subst}
use Prim.Native.Nat.{◌+◌, ◌-◌, ◌<◌}
use native.Mathlib.Omega.{arith}
use lib.ListN.{get_or}
use Rattle.task.specs.Task.{task_in}
use Rattle.sets.specs.Sets.{listed}
use Rattle.extraction.specs.Keeping.{Keeping}
use Rattle.extraction.proofs.Keeping.{keeping_start, entry_named, entry_near, keeping_no, keeping_yes, keeping_entry, keeping_end}
use Rattle.extraction.proofs.keep_back.Goals as goal
use Rattle.extraction.proofs.keep_back.Goals.{In-loop-k}

pub loop-k-init : goal.loop-k-init
loop-k-init c =
    let p = c.requires in
    keeping_start p.replay.0 _ p.replay.1 _ p.facts.stated _ _ c.want.ensures refl

-- the entry that a turn looks at, and what is kept behind it
within : (c : In-loop-k) → c.loop-k.k - 1 < c.args.n
within c = omega (arith, c.loop-k.invariant.within)

behind : (c : In-loop-k) → let h = c.loop-k in let a = c.args in Keeping (task_in a.task.now) a.plan.now a.n h.wanted h.plan (h.k - 1 + 1) h.m
behind c =
    let h = c.loop-k in
    let a = c.args in
    subst (λ x. Keeping (task_in a.task.now) a.plan.now a.n h.wanted h.plan x h.m) (omega arith) h.invariant

same : (c : In-loop-k) → get_or c.loop-k.plan (c.loop-k.k - 1) 0 ≡ get_or c.args.plan.now (c.loop-k.k - 1) 0
same c = keeping_entry c.requires.replay.0 (c.loop-k.k - 1) (within c) (behind c)

pub is_listed-requires : goal.is_listed-requires
is_listed-requires c =
    let d = (goal.at.is_listed-requires c).In-loop-k in
    rw (c.from.ensures, same d) (entry_near c.requires.replay.0 (c.loop-k.k - 1) (within d))

pub preconditions-needed-requires : goal.preconditions-needed-requires
preconditions-needed-requires c =
    let d = (goal.at.preconditions-needed-requires c).In-loop-k in
    let R = c.requires.replay.0 in
    (R.loaded, rw (c.from-then-is_listed.ensures, same d) (entry_named R (c.loop-k.k - 1) (within d)))

pub loop-k-preserved-then-is_listed : goal.loop-k-preserved-then-is_listed
loop-k-preserved-then-is_listed c =
    let d = (goal.at.loop-k-preserved-then-is_listed c).In-loop-k in
    let e = c.from-then-is_listed.ensures ∙ same d in
    keeping_yes c.requires.replay.0 (c.loop-k.k - 1) (within d) (behind d) _ c.requires.replay.1
    (sym c.if-is_listed.true ∙ c.is_listed.ensures ∙ ap (listed c.loop-k.wanted) (c.from.ensures ∙ same d)) _ _
    (rw e at c.preconditions-needed.ensures.stated) c.want-then-is_listed.ensures _ (same d)

pub loop-k-preserved : goal.loop-k-preserved
loop-k-preserved c =
    let d = (goal.at.loop-k-preserved c).In-loop-k in
    keeping_no c.requires.replay.0 (c.loop-k.k - 1) (within d) (behind d) (sym c.if-is_listed.false ∙ c.is_listed.ensures ∙ ap (listed c.loop-k.wanted) (c.from.ensures ∙ same d))

pub returns : goal.returns
returns c =
    let I = c.loop-k.invariant in
    let e : c.loop-k.k ≡ 0 = omega arith in
    (I.end, I.long, keeping_end c.requires.replay.0 _ _ _ (rw e at I))
