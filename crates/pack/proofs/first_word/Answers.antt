-- A number of 45 or 49 bits, left aligned.
use native.Mathlib.Omega.{arith}
use Rattle.pack.proofs.Words.{first_fits, first_bits}
use Rattle.pack.proofs.first_word.Goals as goal

pub overflow_add-result-2 : goal.overflow_add-result-2
overflow_add-result-2 g c = let r = c.requires in omega (arith, first_fits g.row.MARK r.0 _ _ r.1 r.2)

pub returns : goal.returns
returns g c = let r = c.requires in first_bits g.row.MARK r.0 _ _ r.1 r.2
