use mathlib.Core.Path.{◌≡◌, refl, ap, ◌∙◌}
use Prim.Native.Nat.{◌<◌}
use native.Mathlib.Omega.{arith}
use lib.ListN.{get_or}
use Rattle.planning.specs.Runs.{actions}
use Rattle.task.specs.Task.{pre_at, task_in}
use Rattle.sets.proofs.Listed.{Listed}
use Rattle.sets.proofs.Listing.{loaded_listed}
use Rattle.waiting.proofs.Chains.{entered_start, entered_turn}
use Rattle.waiting.proofs.Waits.settle_each.Goals as goal
use Rattle.waiting.proofs.Waits.settle_each.Goals.{After-pre_start}

pub loop-j-init : goal.loop-j-init
loop-j-init c =
    let p = c.requires in
    (entered_start (omega (arith, p.0.formed.variables_max)) p.2 p.3, refl)

-- the rank has an action, whose preconditions start at the place that is noted
near : (c : After-pre_start) → c.loop-j.j < 1024
near c = omega (arith, c.actions-n.ensures, c.requires.0.formed.actions_max)

named : (c : After-pre_start) → get_or c.args.self.now.order.now c.loop-j.j 0 < actions (task_in c.args.task.now)
named c = c.requires.1.named _ (omega (arith, c.actions-n.ensures))

listed : (c : After-pre_start) → Listed c.args.task.now (get_or c.args.self.now.order.now c.loop-j.j 0)
listed c = loaded_listed _ c.requires.0 _ (named c)

place : (c : After-pre_start) → c.pre_start.result ≡ pre_at c.args.task.now (get_or c.args.self.now.order.now c.loop-j.j 0)
place c = c.pre_start.ensures ∙ ap (pre_at c.args.task.now) (c.from.ensures ∙ ap (λ l. get_or l c.loop-j.j 0) c.loop-j.invariant.1)

pub loop-j-preserved : goal.loop-j-preserved
loop-j-preserved c =
    let d = (goal.at.loop-j-preserved c).After-pre_start in
    (entered_turn c.loop-j.invariant.0 (near d) (named d) _ (place d) (listed d).pre_below _ _ (rw c.loop-j.invariant.1 at c.settle.ensures.settles), c.settle.ensures.same ∙ c.loop-j.invariant.1)
