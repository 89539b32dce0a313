-- The front part of a list.
use mathlib.Core.Path.{◌≡◌, sym, ap, ◌∙◌}
use mathlib.Core.List.{List}
use Prim.Native.Nat.{ℕ, min, ◌<◌}
use native.Mathlib.Omega.{arith}
use native.Mathlib.Decide.{dec_lt}
use lib.ListN.{length, take}
use lib.Seq.{take_all}
use Rattle.std.specs.Prelude.{Result, Ok}
use Rattle.planning.specs.Calls.{runnable}
use Rattle.answers.specs.declared.Refusal.{Refusal}
use Rattle.answers.specs.declared.Plan.{Plan}
use Rattle.answers.specs.Plans.{answer_of}

take_min : (l : List ℕ) (n k : ℕ) → n ≡ min (length l) k → take n l ≡ take k l
take_min l n k e = go (dec_lt k (length l))
  where
    go : Dec (k < length l) → take n l ≡ take k l
    go (yes h) = let q : n ≡ k = omega arith in ap (λ (x : ℕ). take x l) q
    go (no h) = take_all n l (omega arith) ∙ sym (take_all k l (omega arith))

-- the steps that run for real
pub runnable_front : (x : Result Plan Refusal) (p : Plan) → x ≡ Ok p → (l : List ℕ) (n : ℕ) → n ≡ min (length l) p.runs → take n l ≡ runnable (answer_of x) l
unfolding runnable
runnable_front x p e l n q = rw e (take_min l n p.runs q)
