-- A number of 61 bits, left aligned; of the first, what stands above them falls off.
use native.Mathlib.Omega.{arith}
use Rattle.pack.proofs.Words.{second_fits, second_bits}
use Rattle.pack.proofs.second_word.Goals as goal

pub overflow_mul-result-2 : goal.overflow_mul-result-2
overflow_mul-result-2 g c = let r = c.requires in omega (arith, second_fits g.row.MARK r.0 c.args.a _ r.1)

pub overflow_add-result-2 : goal.overflow_add-result-2
overflow_add-result-2 g c = let r = c.requires in omega (arith, second_fits g.row.MARK r.0 c.args.a _ r.1)

pub returns : goal.returns
returns g c = let r = c.requires in second_bits g.row.MARK r.0 _ _ r.1
