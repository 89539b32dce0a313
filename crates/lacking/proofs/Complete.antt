-- Complete actions: one whose preconditions allow a return to every value, so that an action that allows these has all its returns.
use mathlib.Core.Path.{◌≡◌}
use mathlib.Core.Logic.{◌⊎◌, inl, inr, ◌≢◌}
use mathlib.Core.Bool.{true, false, not, ◌&&◌}
use Prim.Native.Nat.{ℕ, ◌+◌, ◌<◌}
use native.Mathlib.Omega.{arith}
use native.Mathlib.Decide.{ℕ_discrete}
use lib.Dec.{T, T_not, not_T, eqb, eqb→eq, eqb_refl}
use Rattle.planning.specs.Record.{Task}
use Rattle.planning.specs.Runs.{State, has, holds, variables, actions, act, count}
use Rattle.planning.specs.Painting.{reduced_effects}
use Rattle.laws.proofs.Tests.{true→T, F→false, false→F, T_cases, and_l, and_r, and_i}
use Rattle.laws.proofs.Below.{some_intro, some_elim}
use Rattle.laws.proofs.Facts.{holds→sub, sub→holds}
use Rattle.laws.proofs.Formed.{Formed, sorted_has}
use Rattle.returns.specs.Returns.{returns_by, returned}
use Rattle.lacking.specs.Lacking.{unreturned_from, Complete}

-- for some value from a on, of n, there is no return
module _ (t : Task) (m : State) (v e : ℕ) where
  pub from_in : (a n k : ℕ) → k < n → a + k ≢ e → T (not (returned t m v (a + k))) → T (unreturned_from t m v e a n)
  unfolding unreturned_from
  from_in a n k b z r = some_intro n (λ k. not (eqb (a + k) e) && not (returned t m v (a + k))) k b
      (and_i (not (eqb (a + k) e)) (not (returned t m v (a + k))) (not_T (eqb (a + k) e) (λ q. z (eqb→eq (a + k) e q))) r)

  pub from_out : (a n : ℕ) → T (unreturned_from t m v e a n) → (k : ℕ) × (k < n) × (a + k ≢ e) × T (not (returned t m v (a + k)))
  unfolding unreturned_from
  from_out a n h =
      let r = some_elim n (λ k. not (eqb (a + k) e) && not (returned t m v (a + k))) h in
      let k : ℕ = r.0 in
      let p : T (not (eqb (a + k) e) && not (returned t m v (a + k))) = r.2 in
      (k, r.1, λ z. T_not (eqb (a + k) e) (search and_l) (rw z (eqb_refl e)), search and_r)

module _ (t : Task) (F : Formed t) where
  pub pre_small : (i u x : ℕ) → T (has (act t i).pre u x) → (u < variables t) × (x < 64)
  pre_small i u x h =
      let I = sorted_has (variables t) (count t) 0 (act t i).pre (F.pre_sorted i) u x h in
      (I.var_below, omega (arith, I.val_below, F.count_max u))

  -- the more is allowed, the more is returned
  returned_more : (m m' : State) → ((u x : ℕ) → u < variables t → x < 64 → T (m u x) → T (m' u x)) → (v d : ℕ) → T (returned t m v d) → T (returned t m' v d)
  unfolding returned
  returned_more m m' more v d h =
      let r = some_elim (actions t) (returns_by t m v d) h in
      let j : ℕ = r.0 in
      let p : T (holds m (act t j).pre) = and_r (has (reduced_effects (act t j)) v d) (holds m (act t j).pre) r.2 in
      let q = sub→holds m' (act t j).pre (λ u x g. more u x (pre_small j u x g).0 (pre_small j u x g).1 (holds→sub m (act t j).pre p u x g)) in
      let c = and_l (has (reduced_effects (act t j)) v d) (holds m (act t j).pre) r.2 in
      some_intro (actions t) (returns_by t m' v d) j r.1 (and_i (has (reduced_effects (act t j)) v d) (holds m' (act t j).pre) c q)

  -- an action whose marks allow a return to every value is complete
  pub complete_of : (m : State) (v e j : ℕ) → j < actions t → ((u x : ℕ) → u < variables t → x < 64 → T (m u x) → T (has (act t j).pre u x))
      → returned t m v e ≡ true → unreturned_from t m v e 0 (count t v) ≡ false → Complete t v j
  complete_of m v e j b less own rest = record { below = b; each = λ d h. returned_more m (has (act t j).pre) less v d (go d h (ℕ_discrete d e) (T_cases (returned t m v d))) }
    where
      go : (d : ℕ) → d < count t v → Dec (d ≡ e) → T (returned t m v d) ⊎ T (not (returned t m v d)) → T (returned t m v d)
      go d h y (inl r) = r
      go d h (yes y) (inr r) = rw y (true→T (returned t m v e) own)
      go d h (no y) (inr r) = let z : 0 + d ≡ d = omega arith in absurd (false→F (unreturned_from t m v e 0 (count t v)) rest (from_in t m v e 0 (count t v) d h (rw z y) (rw z r)))

  -- with its preconditions marked, no value lacks its return
  pub complete_covers : (m : State) (v e j : ℕ) → Complete t v j → holds m (act t j).pre ≡ true → unreturned_from t m v e 0 (count t v) ≡ false
  complete_covers m v e j C h = F→false (unreturned_from t m v e 0 (count t v)) (λ z.
      let r = from_out t m v e 0 (count t v) z in
      let sub = holds→sub m (act t j).pre (true→T (holds m (act t j).pre) h) in
      T_not (returned t m v (0 + r.0)) r.3 (returned_more (has (act t j).pre) m (λ u x _ _ g. sub u x g) v (0 + r.0) (C.each (0 + r.0) (omega (arith, r.1)))))
