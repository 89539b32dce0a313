-- A member that came out of a set, and what is left: what was there and is not that member is left.
use Rattle.std.proofs.Common.{◌≡◌, ◌≢◌, not, ◌&&◌, ℕ, T, eqb}
use Rattle.laws.proofs.Tests.{and_l, and_r, and_i}
use lib.Dec.{T_not, not_T, eqb→eq, eqb_refl}
use Rattle.sets.specs.Sets.{in_set}

module _ (s c r : ℕ) (e : (x : ℕ) → in_set r x ≡ (in_set s x && not (eqb x c))) where
  pub left_of : (x : ℕ) → T (in_set r x) → T (in_set s x)
  left_of x h = and_l (in_set s x) (not (eqb x c)) (rw (e x) at h)

  pub left_out : T (in_set r c) → ⊥
  left_out h = T_not (eqb c c) (and_r (in_set s c) (not (eqb c c)) (rw (e c) at h)) (eqb_refl c)

  pub left_in : (x : ℕ) → T (in_set s x) → x ≢ c → T (in_set r x)
  left_in x h n = rw (e x) (and_i (in_set s x) (not (eqb x c)) h (not_T (eqb x c) (λ q. n (eqb→eq x c q))))
