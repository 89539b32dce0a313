-- The least number that passes a test, as a loop finds it: nothing passed so far, and at the end or at a hit that is the answer.
use mathlib.Core.Path.{◌≡◌, sym}
use mathlib.Core.Bool.{Bool, true, false}
use mathlib.Core.Option.{none, some}
use Prim.Native.Nat.{ℕ, ◌+◌, ◌<◌, ◌≤◌}
use native.Mathlib.Omega.{arith}
use native.Mathlib.Decide.{ℕ_discrete}
use Rattle.planning.specs.Basics.{first}
use Rattle.laws.proofs.Tests.{true→T, false→F}
use Rattle.laws.proofs.Below.{first_some_is, first_none_is}

-- nothing below v passes
pub record Searched (n : ℕ) (p : ℕ → Bool) (v : ℕ) : Type 0 where
  pub within : v ≤ n
  pub passed : (j : ℕ) → j < v → p j ≡ false

pub searched_start : (n : ℕ) (p : ℕ → Bool) → Searched n p 0
searched_start n p = record { within = omega arith; passed = λ j l. absurd (omega arith) }

module _ (n : ℕ) (p : ℕ → Bool) (v : ℕ) (S : Searched n p v) where
  pub searched_turn : v < n → p v ≡ false → Searched n p (v + 1)
  searched_turn h e = record { within = omega arith; passed = λ j l. go j (ℕ_discrete j v) l }
    where
      go : (j : ℕ) → Dec (j ≡ v) → j < v + 1 → p j ≡ false
      go j (yes q) l = rw q e
      go j (no q) l = S.passed j (omega arith)

  pub searched_hit : v < n → p v ≡ true → some v ≡ first n p
  searched_hit h e = sym (first_some_is n p v (record { below = h; passes = true→T (p v) e; least = λ j l. false→F (p j) (S.passed j l) }))

  pub searched_end : n ≤ v → none ≡ first n p
  searched_end h = sym (first_none_is n p (λ i b. false→F (p i) (S.passed i (omega arith))))
