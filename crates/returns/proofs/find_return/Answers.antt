use Rattle.std.proofs.Common.{arith}
use Rattle.laws.proofs.Painting.{black_inside}
use Rattle.returns.proofs.Returns.{finds, finds_from_head}
use Rattle.returns.proofs.find_return.Goals as goal

pub returns-in-Some : goal.returns-in-Some
returns-in-Some c = finds _ _ c.requires.0 _ _ _ c.in-Some.ensures

pub first_mover-requires : goal.first_mover-requires
first_mover-requires c = let p = c.requires.0 in (p.loaded, omega (arith, black_inside _ _ p.on))

pub returns : goal.returns
returns c = finds_from_head _ _ c.requires.0 _ _ _ c.first_mover.ensures c.first_return-2.ensures
