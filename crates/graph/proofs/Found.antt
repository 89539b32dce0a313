-- The least number that passes a test, as `find` over a range gives it.
use Rattle.std.proofs.Common.{◌≡◌, ℕ, ◌<◌, ◌≤◌, Bool, true, false, Option, Some, None, sym, arith}
use Rattle.std.specs.Option.{MatchOption}
use Rattle.planning.specs.Basics.{first}
use Rattle.laws.proofs.Tests.{true→T, false→F}
use Rattle.laws.proofs.Below.{first_some_is, first_none_is}
use Rattle.task.specs.Goals.{option_of}

-- r is the least number below n that passes p, as the lemma on `find` says it
abbrev pub Least : ℕ → (ℕ → Bool) → Option ℕ → Type 0
Least n p r = MatchOption r ((k : ℕ) → 0 ≤ k → k < n → p k ≡ false) (λ i. (0 ≤ i) × (i < n) × (p i ≡ true) × ((k : ℕ) → 0 ≤ k → k < i → p k ≡ false))

pub found_first : (n : ℕ) (p : ℕ → Bool) (r : Option ℕ) → Least n p r → option_of r ≡ first n p
found_first n p None h = sym (first_none_is n p (λ i b. false→F (p i) (h i (omega arith) b)))
found_first n p (Some i) h = sym (first_some_is n p i (record { below = h.1; passes = true→T (p i) h.2; least = λ j l. false→F (p j) (h.3 j (omega arith) l) }))
