use Rattle.std.proofs.Common.{arith, refl}
use Rattle.painting.specs.Chains.{linked_move}
use Rattle.painting.proofs.Chains.{the_move, move_heads}
use Rattle.painting.proofs.link.Goals as goal

pub link-requires : goal.link-requires
link-requires c =
    let p = c.requires in
    let k = the_move _ _ p.0.formed _ _ c.in-Some.ensures in
    (move_heads _ _ p.0.formed _ _ k _ p.0.heads, omega (arith, p.1, p.0.formed.actions_max))

pub returns-in-Some : goal.returns-in-Some
unfolding linked_move
returns-in-Some c = rw (← c.in-Some.ensures) c.link.ensures

pub returns-in_default : goal.returns-in_default
unfolding linked_move
returns-in_default c = rw (← c.in_default.ensures) refl
