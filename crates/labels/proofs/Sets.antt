-- A set without its least member: a number and the one below it have the same binary digits above the lowest 1, and none below it.
use Rattle.std.proofs.Common.{◌≡◌, refl, Bool, true, false, not, ◌&&◌, ℕ, zero, suc, ◌-◌, ◌*◌, ◌/◌, ◌%◌, ◌^◌, ◌<◌, eqb, bit_and, arith}
use Rattle.std.specs.Int.Count.{count_trailing_zeros}
use native.Mathlib.Nat.{pow-suc}
use lib.Count.{under}
use lib.Dec.{eqb-suc-suc, eqb-suc-zero}
use Rattle.sets.specs.Sets.{in_set}
use Rattle.sets.proofs.Members.{in_set_and, in_set_zero, in_set_half}

and_same : (a : Bool) → (a && a) ≡ (a && true)
and_same true = refl
and_same false = refl

shared : (k m x : ℕ) → 0 < m → m < 2 ^ k → (in_set m x && in_set (m - 1) x) ≡ (in_set m x && not (eqb x (count_trailing_zeros k m)))
unfolding count_trailing_zeros
shared zero m x p h = absurd (omega arith)
shared (suc k) m x p h = go (m % 2) refl x (shared k (m / 2))
  where
    go : (b : ℕ) → m % 2 ≡ b → (x : ℕ) → ((x : ℕ) → 0 < m / 2 → m / 2 < 2 ^ k → (in_set (m / 2) x && in_set (m / 2 - 1) x) ≡ (in_set (m / 2) x && not (eqb x (count_trailing_zeros k (m / 2)))))
        → (in_set m x && in_set (m - 1) x) ≡ (in_set m x && not (eqb x (under b (count_trailing_zeros k (m / 2)))))
    go zero e zero f = rw (in_set_zero m, e) refl
    go zero e (suc x) f =
        let q : 2 ^ suc k ≡ 2 ^ k * 2 = pow-suc 2 k in
        let i : (m - 1) / 2 ≡ m / 2 - 1 = omega arith in
        rw (in_set_half m x, in_set_half (m - 1) x, i, eqb-suc-suc x (count_trailing_zeros k (m / 2))) (f x (omega arith) (omega arith))
    go (suc b) e zero f =
        let o : m % 2 ≡ 1 = omega arith in
        let z : (m - 1) % 2 ≡ 0 = omega arith in
        rw (in_set_zero m, in_set_zero (m - 1), o, z) refl
    go (suc b) e (suc x) f =
        let i : (m - 1) / 2 ≡ m / 2 = omega arith in
        rw (in_set_half m x, in_set_half (m - 1) x, i, eqb-suc-zero x) (and_same (in_set (m / 2) x))

pub in_set_rest : (m x : ℕ) → 0 < m → m < 2 ^ 64 → in_set (bit_and m (m - 1)) x ≡ (in_set m x && not (eqb x (count_trailing_zeros 64 m)))
in_set_rest m x p h = rw (in_set_and m (m - 1) x) (shared 64 m x p h)
