-- Sets of variables: emptiness.
use mathlib.Core.Path.{◌≡◌, sym, ◌∙◌}
use mathlib.Core.Bool.{false}
use Prim.Native.Nat.{ℕ, zero, suc, ◌/◌, ◌%◌, ◌^◌, ◌<◌}
use native.Mathlib.Nat.{pow-suc}
use native.Mathlib.Omega.{arith}
use native.Mathlib.Decide.{ℕ_discrete}
use lib.Dec.{eqb}
use Rattle.sets.proofs.Members.{in_set_half}
use Rattle.sets.specs.Sets.{in_set}

low : (n : ℕ) → in_set n 0 ≡ false → n % 2 ≡ 0
unfolding in_set
low n f = go (ℕ_discrete (n % 2) 0)
  where
    go : Dec (n % 2 ≡ 0) → n % 2 ≡ 0
    go (yes e) = e
    go (no h) =
        let o : n / 2 ^ 0 % 2 ≡ 1 = omega arith in
        let q : eqb 1 1 ≡ false = rw o at f in
        let y : ◌≡◌ {A = ℕ} 0 1 = cc in omega arith

-- a set with no element is 0
pub empty_is : (k x : ℕ) → x < 2 ^ k → ((u : ℕ) → u < k → in_set x u ≡ false) → x ≡ 0
empty_is zero x h f = omega arith
empty_is (suc k) x h f =
    let r : x / 2 ≡ 0 = empty_is k (x / 2) (omega (arith, pow-suc 2 k)) (λ u b. sym (in_set_half x u) ∙ f (suc u) (omega arith)) in
    omega (arith, low x (f 0 (omega arith)))
