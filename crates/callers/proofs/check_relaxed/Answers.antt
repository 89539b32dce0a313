use borrow.Author.Tests.{eq-eqb, ne_eqb}
use mathlib.Core.Path.{◌≡◌, ap, ◌∙◌}
use mathlib.Core.Logic.{inl, inr}
use Prim.Native.Nat.{ℕ}
use native.Mathlib.Omega.{arith}
use lib.ListN.{take}
use lib.Seq.{length-take-le}
use Rattle.task.specs.Task.{task_in}
use Rattle.planning.specs.Runs.{actions}
use Rattle.planning.specs.Calls.{relaxed_check}
use Rattle.entries.specs.Entries.{leading}
use Rattle.entries.proofs.Lists.{long_refused, entries_below}
use Rattle.callers.proofs.Relaxed.{front_entries, relaxed_passed, relaxed_refused, relaxes_none}
use Rattle.callers.proofs.check_relaxed.Goals as goal
use Rattle.callers.proofs.check_relaxed.Goals.{After-leading-n, else-v-via-else-v, else-v-via-then-v+else-n-list}

pub returns-then-list-gt32768 : goal.returns-then-list-gt32768
returns-then-list-gt32768 c = let a = c.args in long_refused (relaxed_check (task_in a.task.now) a.list.now) a.list.now (omega arith)

ensured : (c : After-leading-n) → c.leading-n.result ≡ leading (actions (task_in c.args.task.now))
    c.args.list.now
ensured c = c.leading-n.ensures.0 ∙ ap (λ (n : ℕ). leading n c.args.list.now) c.actions.ensures

pub judge_relaxed-v-requires : goal.judge_relaxed-v-requires
judge_relaxed-v-requires c =
    let n = c.leading-n.result in
    let l = c.args.list.now in (
      record {
        loaded = c.requires;
        short = omega (arith, length-take-le n l c.leading-n.ensures.1);
        entries = entries_below (task_in c.args.task.now) (take n l) (front_entries (task_in c.args.task.now) l n (ensured (goal.at.judge_relaxed-v-requires c).After-leading-n));
      },
      relaxes_none _ _ _ c.initial.ensures.sets_value,
    )

pub returns-then-n-list : goal.returns-then-n-list
returns-then-n-list c =
    let a = c.args in
    relaxed_passed (task_in a.task.now) a.list.now c.leading-n.result (ensured (goal.at.returns-then-n-list c).After-leading-n)
    (omega arith) c.leading-n.ensures.1 _ c.judge_relaxed-v.ensures c.if-v.true (eq-eqb _ _ c.if-n-list.true)

pub returns : goal.returns
returns c =
    let a = c.args in
    relaxed_refused (task_in a.task.now) a.list.now c.leading-n.result (ensured (goal.at.returns c).After-leading-n) (omega arith)
    c.leading-n.ensures.1 _ c.judge_relaxed-v.ensures (elim c.else-v.branch [ else-v-via-then-v+else-n-list q ↦ inl (ne_eqb _ _ q.if-n-list.false) | else-v-via-else-v q ↦ inr q.if-v.false ])
