use mathlib.Core.Path.{ap, ◌∙◌}
use Prim.Native.Nat.{ℕ}
use lib.Dec.{eqb}
use Rattle.task.proofs.Reading.{black_is}
use borrow.Author.Rules.{rules}
use Rattle.task.proofs.is_black.Goals as goal

pub returns : goal.returns
returns c = ap (λ (x : ℕ). eqb x 1) c.from.ensures ∙ black_is _ _ (search rules)
