-- The least member of a set: the zeros at the end of the number are as many as it says.
use mathlib.Core.Path.{◌≡◌, refl}
use Prim.Native.Nat.{ℕ, zero, suc, ◌*◌, ◌/◌, ◌%◌, ◌^◌, ◌<◌}
use native.Mathlib.Nat.{pow-suc}
use native.Mathlib.Omega.{arith}
use lib.Count.{count_trailing_zeros, under}
use lib.Dec.{T}
use Rattle.sets.specs.Sets.{in_set}
use Rattle.sets.proofs.Members.{in_set_zero, in_set_half}

-- a set that has a member ends in fewer zeros than it has digits
pub least_below : (k m : ℕ) → 0 < m → m < 2 ^ k → count_trailing_zeros k m < k
unfolding count_trailing_zeros
least_below zero m p h = absurd (omega arith)
least_below (suc k) m p h = go (m % 2) refl (least_below k (m / 2))
  where
    go : (b : ℕ) → m % 2 ≡ b → (0 < m / 2 → m / 2 < 2 ^ k → count_trailing_zeros k (m / 2) < k) → under b (count_trailing_zeros k (m / 2)) < suc k
    go zero e f = let q : 2 ^ suc k ≡ 2 ^ k * 2 = pow-suc 2 k in omega (arith, f (omega arith) (omega arith))
    go (suc b) e f = omega arith

pub least_in : (k m : ℕ) → count_trailing_zeros k m < k → T (in_set m (count_trailing_zeros k m))
unfolding count_trailing_zeros
least_in zero m h = absurd (omega arith)
least_in (suc k) m h = go (m % 2) refl h (least_in k (m / 2))
  where
    go : (b : ℕ) → m % 2 ≡ b → under b (count_trailing_zeros k (m / 2)) < suc k → (count_trailing_zeros k (m / 2) < k → T (in_set (m / 2) (count_trailing_zeros k (m / 2)))) → T (in_set m (under b (count_trailing_zeros k (m / 2))))
    go zero e h f = rw in_set_half (f (omega arith))
    go (suc b) e h f = let z : m % 2 ≡ 1 = omega arith in rw (in_set_zero m, z) tt

pub least_out : (k m x : ℕ) → x < count_trailing_zeros k m → T (in_set m x) → ⊥
unfolding count_trailing_zeros
least_out zero m x h t = omega arith
least_out (suc k) m x h t = go (m % 2) refl x h t (least_out k (m / 2))
  where
    go : (b : ℕ) → m % 2 ≡ b → (x : ℕ) → x < under b (count_trailing_zeros k (m / 2)) → T (in_set m x) → ((x : ℕ) → x < count_trailing_zeros k (m / 2) → T (in_set (m / 2) x) → ⊥) → ⊥
    go zero e zero h t f = rw (in_set_zero m, e) at t
    go zero e (suc x) h t f = f x (omega arith) (rw in_set_half at t)
    go (suc b) e x h t f = omega arith
