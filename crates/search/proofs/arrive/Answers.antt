use Rattle.std.proofs.Common.{arith}
use Rattle.search.proofs.Arriving.{Chain, chain_place, chain_inside, arriving_start, arriving_turn, arriving_end}
use Rattle.search.proofs.arrive.Goals as goal
use Rattle.search.proofs.arrive.Goals.{Start}

chain : (s : Start) → Chain s.args.arcs.now.task.now s.args.v s.args.x s.args.rest
chain s = let p = s.requires.prepared in record { prepared = p.0; painted = p.1; near = s.requires.x_bound.0; outside = s.requires.x_bound.2 }

pub overflow_mul-v : goal.overflow_mul-v
overflow_mul-v c = record { fits = omega (arith, chain_place _ _ _ _ (chain (goal.at.overflow_mul-v c).Start)) }

pub overflow_add-v : goal.overflow_add-v
overflow_add-v c = record { fits = omega (arith, chain_place _ _ _ _ (chain (goal.at.overflow_add-v c).Start)) }

pub first_mover-i-requires : goal.first_mover-i-requires
first_mover-i-requires c = (c.requires.prepared.0.loaded, chain_inside _ _ _ _ (chain (goal.at.first_mover-i-requires c).Start))

pub loop-i-init : goal.loop-i-init
loop-i-init c = arriving_start _ _ _ _ (chain (goal.at.loop-i-init c).Start) _ _ _ _ _ c.requires.prepared.2 c.first_mover-i.ensures

pub loop-i-preserved : goal.loop-i-preserved
loop-i-preserved c =
    arriving_turn _ _ _ _ (chain (goal.at.loop-i-preserved c).Start) _ _ _ _ _ _ _ c.loop-i.invariant (omega arith) _ _ _ _ c.mark.ensures.labels_len
    c.usable_sources-set.ensures c.label.ensures c.mark.ensures.by_index c.next_mover-i.ensures

pub returns : goal.returns
returns c = arriving_end _ _ _ _ (chain (goal.at.returns c).Start) _ _ _ _ _ _ _ c.loop-i.invariant (omega arith)
