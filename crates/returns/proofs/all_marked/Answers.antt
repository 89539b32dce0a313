-- One precondition that is not marked is enough; else the walk tells.
use Rattle.std.proofs.Common.{sym, arith}
use Rattle.returns.proofs.Marks.{pre_places, unmarked_here, unmarked_at}
use Rattle.returns.proofs.all_marked.Goals as goal

pub bounds-m-from : goal.bounds-m-from
bounds-m-from c =
    let p = c.requires in
    let b = pre_places _ p.0 _ p.1 _ _ p.2 c.preconditions-pre.ensures.stated _ c.if-seen-pre.true in
    omega (arith, c.from.ensures)

pub returns-then-m-from : goal.returns-then-m-from
returns-then-m-from c =
    rw (← c.preconditions-pre.ensures.stated) (sym (unmarked_at _ _ _ (unmarked_here _ _ _ _ c.if-seen-pre.true _ c.from.ensures c.if-m-from.true)))

pub first_unmarked-requires : goal.first_unmarked-requires
first_unmarked-requires c = let p = c.requires in pre_places _ p.0 _ p.1 _ _ p.2 c.preconditions-pre.ensures.stated
