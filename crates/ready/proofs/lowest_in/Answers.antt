use borrow.Author.Rules.{rules}
use Rattle.ready.proofs.Bits.{trailing_lowest}
use Rattle.ready.proofs.lowest_in.Goals as goal

pub returns : goal.returns
returns c = trailing_lowest 64 c.args.m (search rules) (search rules)
