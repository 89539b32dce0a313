use Rattle.laws.proofs.Formed.{Formed}
use Rattle.laws.proofs.Painting.{black_inside}
use Rattle.task.specs.Task.{task_in}
use Rattle.labels.specs.Labels.{Least}
use Rattle.search.proofs.Settling.{started, near_in, near_key, none_in, taken_fewer, taken_out, settling_turn, settling_stop, settling_end}
use Rattle.search.proofs.settle.Goals as goal
use Rattle.search.proofs.settle.Goals.{Start, In-Some, After-single-one}

formed : (s : Start) → Formed (task_in s.args.arcs.now.task.now)
formed s = s.requires.0.loaded.formed

pub count-requires : goal.count-requires
count-requires c = let p = c.requires in (p.0.loaded, black_inside _ _ p.1)

pub loop-near-init : goal.loop-near-init
loop-near-init c = rw c.requires.3 (started _ (formed (goal.at.loop-near-init c).Start) _ _ _ _ _ c.requires.2 c.count.ensures c.single-front.ensures)

-- the value that is settled next
least : (c : In-Some) → Least c.loop-near.labels c.loop-near.front c.in-Some.x
least c = rw c.in-Some.is at c.loop-near.invariant.1

pub returns-then-not-whole : goal.returns-then-not-whole
returns-then-not-whole c =
    let n = least (goal.at.returns-then-not-whole c).In-Some in
    let r = settling_stop _ (formed (goal.at.returns-then-not-whole c).Start) _ _ _ c.requires.2 _ _ _ c.loop-near.invariant.0 _ n _ c.single-one.ensures in
    (r.0, rw c.if-x-c.true at r.1)

pub arrive-front-requires-clause-x_bound : goal.arrive-front-requires-clause-x_bound
arrive-front-requires-clause-x_bound c =
    let n = least (goal.at.arrive-front-requires-clause-x_bound c).In-Some in
    let F = formed (goal.at.arrive-front-requires-clause-x_bound c).Start in
    (n.within, near_key _ F _ _ _ c.requires.2 _ _ _ c.loop-near.invariant.0 _ n, taken_out _ _ _ c.single-one.ensures (near_in _ F _ _ _ c.requires.2 _ _ _ c.loop-near.invariant.0 _ n))

pub loop-near-smaller : goal.loop-near-smaller
loop-near-smaller c =
    let n = least (goal.at.loop-near-smaller c).In-Some in
    taken_fewer _ _ _ c.single-one.ensures (near_in _ (formed (goal.at.loop-near-smaller c).Start) _ _ _ c.requires.2 _ _ _ c.loop-near.invariant.0 _ n) n.within

pub loop-near-preserved : goal.loop-near-preserved
loop-near-preserved c =
    let n = least (goal.at.loop-near-preserved c).In-Some in
    (settling_turn _ (formed (goal.at.loop-near-preserved c).Start) _ _ _ c.requires.2 _ _ _ c.loop-near.invariant.0 _ n _ c.single-one.ensures _ _ c.arrive-front.ensures, c.nearest-near.ensures)

pub returns : goal.returns
returns c =
    (settling_end _ (formed (goal.at.returns c).Start) _ _ _ c.requires.2 _ _ _ c.loop-near.invariant.0 (rw c.in_default.is at c.loop-near.invariant.1), none_in _)
