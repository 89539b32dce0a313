-- What C gets of a refused sheet: a number that is not 0, and 0 for all else.
use mathlib.Core.List.{List}
use mathlib.Core.Path.{◌≡◌, ap, ◌∙◌}
use Prim.Native.Nat.{ℕ, ◌+◌, ◌*◌}
use native.Mathlib.Omega.{arith}
use Rattle.planning.specs.Basics.{refused, code}
use Rattle.planning.specs.Calls.{write_call, read_call}
use Rattle.planning.specs.Sheet.{Sheet}
use Rattle.sheet.proofs.Numbers.{write_number, read_number}

pub written_zero : (x : Sheet) (n m p v : ℕ) → write_call x n ≡ refused m p → v ≡ code (write_call x n) → v ≡ 0 → ⊥
unfolding code
written_zero x n m p v t e z = let k : v ≡ 32 * p + m = e ∙ ap code t in omega (arith, write_number x n m p t)

pub reading_zero : (s : List ℕ) (n m k p v : ℕ) → read_call s n m ≡ refused k p → v ≡ code (read_call s n m) → v ≡ 0 → ⊥
unfolding code
reading_zero s n m k p v t e z = let q : v ≡ 32 * p + k = e ∙ ap code t in omega (arith, read_number s n m k p t)
