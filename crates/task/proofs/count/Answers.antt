use mathlib.Core.Path.{◌≡◌, sym, ap, ◌∙◌}
use mathlib.Core.List.{List}
use Prim.Native.Nat.{ℕ, ◌+◌, ◌*◌}
use native.Mathlib.Omega.{arith}
use lib.ListN.{get_or}
use Rattle.task.specs.Task.{cell}
use Rattle.task.proofs.Reading.{count_is}
use borrow.Author.Rules.{rules}
use Rattle.task.proofs.count.Goals as goal

-- the first number of a row
at_zero : (l : List ℕ) (r : ℕ) → cell l r 0 ≡ get_or l (4 * r) 0
at_zero l r = ap (λ (x : ℕ). get_or l x 0) (omega arith)

pub returns : goal.returns
returns c = let a = c.args in c.from.ensures ∙ sym (at_zero a.task.now (1 + a.v)) ∙ count_is _ _ (search rules)
