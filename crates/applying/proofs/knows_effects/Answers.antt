-- An action known has its effects held, and held they stay; one that joins has them held in the state behind it.
use mathlib.Core.Path.{ap}
use Prim.Native.Nat.{◌/◌}
use lib.Bits.{bit_or}
use lib.ListN.{get_or}
use Rattle.sets.proofs.Listing.{loaded_listed}
use Rattle.applying.proofs.Knowing.{known_step, known_more, listed_more}
use Rattle.applying.proofs.knows_effects.Goals as goal

pub returns-then-is_listed-clause-known : goal.returns-then-is_listed-clause-known
returns-then-is_listed-clause-known c = known_step _ _ c.requires.2 c.args.i

pub returns-clause-known : goal.returns-clause-known
returns-clause-known c =
    let near = (loaded_listed _ c.requires.0 _ c.requires.1).near in
    known_more _ _ c.requires.2 c.args.i _ near (ap (bit_or (get_or c.args.known.now (c.args.i / 64) 0)) c.single.ensures)

pub returns-clause-with_only : goal.returns-clause-with_only
returns-clause-with_only c =
    let near = (loaded_listed _ c.requires.0 _ c.requires.1).near in
    listed_more _ c.requires.2.long c.args.i _ near (ap (bit_or (get_or c.args.known.now (c.args.i / 64) 0)) c.single.ensures)
