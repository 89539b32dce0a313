-- Sets of ranks as numbers: the lowest member, a member put in and one taken out.
use mathlib.Core.Path.{◌≡◌, refl, sym, ◌∙◌}
use mathlib.Core.Logic.{◌≢◌}
use mathlib.Core.Bool.{Bool, false, not, ◌&&◌, ◌||◌, and-true, and-false, or-true, or-false, or_comm}
use mathlib.Core.List.{List}
use Prim.Native.Nat.{ℕ, zero, suc, ◌+◌, ◌-◌, ◌*◌, ◌/◌, ◌%◌, ◌^◌, ◌<◌, ◌≤◌}
use native.Mathlib.Nat.{pow-suc}
use native.Mathlib.Omega.{arith}
use native.Mathlib.Decide.{ℕ_discrete, dec_lt}
use borrow.Author.Tests.{ne_eqb, eq-eqb}
use lib.Bits.{bit_or}
use lib.Count.{count_trailing_zeros}
use lib.Dec.{T, not_T, eqb, eqb→eq, eqb_refl, eqb-suc-suc, eqb-suc-zero, eqb-zero-suc}
use lib.ListN.{get_or, set, length-set, replicate, length-replicate, get_or-eq_default}
use lib.Seq.{get_or-set_same, get_or-set_other, set-get_or}
use Rattle.laws.proofs.Lists.{get_d_zeros}
use Rattle.laws.proofs.Tests.{T→true, or_l}
use Rattle.sets.specs.Sets.{in_set, sets_of}
use Rattle.sets.proofs.Least.{least_below, least_in, least_out}
use Rattle.sets.proofs.Members.{in_set_or, in_set_single, in_set_empty, in_set_half, in_set_zero}
use Rattle.std.specs.Prelude.{Some, None}
use Rattle.ready.specs.Ready.{member, Ready, LowestIn, Lowest, With, Without}

in_set_odd : (m : ℕ) → T (in_set m 0) → m % 2 ≡ 1
in_set_odd m h = eqb→eq (m % 2) 1 (rw in_set_zero at h)

pub in_set_le : (b m : ℕ) → T (in_set m b) → 2 ^ b ≤ m
in_set_le zero m h = omega (arith, in_set_odd m h)
in_set_le (suc b) m h = rw pow-suc (omega (arith, in_set_le b (m / 2) (rw in_set_half at h)))

-- a member taken out
in_set_minus : (b m x : ℕ) → T (in_set m b) → in_set (m - 2 ^ b) x ≡ (in_set m x && not (eqb x b))
in_set_minus zero m zero h =
    let e : m % 2 ≡ 1 = in_set_odd m h in
    let z : (m - 1) % 2 ≡ 0 = omega arith in
    rw (in_set_zero (m - 1), in_set_zero m, z, e) refl
in_set_minus zero m (suc x) h =
    let e : m % 2 ≡ 1 = in_set_odd m h in
    let z : (m - 1) / 2 ≡ m / 2 = omega arith in
    rw (in_set_half (m - 1) x, in_set_half m x, z, eqb-suc-zero x) (sym (and-true (in_set (m / 2) x)))
in_set_minus (suc b) m zero h =
    let e : 2 ^ suc b ≡ 2 ^ b * 2 = pow-suc 2 b in
    let z : (m - 2 ^ suc b) % 2 ≡ m % 2 = omega (arith, in_set_le (suc b) m h) in
    rw (in_set_zero (m - 2 ^ suc b), in_set_zero m, z, eqb-zero-suc b) (sym (and-true (eqb (m % 2) 1)))
in_set_minus (suc b) m (suc x) h =
    let e : 2 ^ suc b ≡ 2 ^ b * 2 = pow-suc 2 b in
    let z : (m - 2 ^ suc b) / 2 ≡ m / 2 - 2 ^ b = omega arith in
    rw (in_set_half (m - 2 ^ suc b) x, in_set_half m x, z, eqb-suc-suc x b) (in_set_minus b (m / 2) x (rw in_set_half at h))

-- the lowest member of a set of k
pub trailing_lowest : (k m : ℕ) → 0 < m → m < 2 ^ k → LowestIn m k (count_trailing_zeros k m)
trailing_lowest k m p h = let b = least_below k m p h in record { below = b; is = least_in k m b; least = least_out k m }

-- the lowest member of a list of sets: the lowest of the first set that has one
module _ (ready : List ℕ) (R : Ready ready) where
  -- a set with a member is said to have one
  member_filled : (j : ℕ) → T (member ready j) → T (in_set (get_or ready 0 0) (j / 64))
  unfolding member sets_of
  member_filled j t = rw (R.filled (j / 64)) (not_T (eqb (get_or ready (j / 64 + 1) 0) 0) (λ z. rw (eqb→eq (get_or ready (j / 64 + 1) 0) 0 z, in_set_empty (j % 64)) at t))

  pub filled_some : (w : ℕ) → T (in_set (get_or ready 0 0) w) → (w < 16) × (0 < get_or ready (w + 1) 0)
  filled_some w t = go (ℕ_discrete (get_or ready (w + 1) 0) 0) (dec_lt w 16)
    where
      go : Dec (get_or ready (w + 1) 0 ≡ 0) → Dec (w < 16) → (w < 16) × (0 < get_or ready (w + 1) 0)
      go (yes z) d = absurd (rw (R.filled w, eq-eqb (get_or ready (w + 1) 0) 0 z) at t)
      go (no n) (yes l) = (l, omega arith)
      go (no n) (no l) = absurd (n (get_or-eq_default ready 0 (omega (arith, R.long))))

  pub lowest_none : get_or ready 0 0 ≡ 0 → Lowest ready None
  lowest_none e j l t = rw (e, in_set_empty (j / 64)) at (member_filled j t)

  pub lowest_found : (w t : ℕ) → LowestIn (get_or ready 0 0) 64 w → LowestIn (get_or ready (w + 1) 0) 64 t → Lowest ready (Some (64 * w + t))
  unfolding member sets_of
  lowest_found w t W L =
      let b = L.below in
      let h = (filled_some w W.is).0 in
      let q : (64 * w + t) / 64 ≡ w = omega arith in
      let r : (64 * w + t) % 64 ≡ t = omega arith in
      record { few = omega arith; is = rw (q, r) L.is; least = λ j l i. go j l i (ℕ_discrete (j / 64) w) }
    where
      go : (j : ℕ) → j < 64 * w + t → T (member ready j) → Dec (j / 64 ≡ w) → ⊥
      go j l i (yes e) = L.least (j % 64) (omega arith) (rw e at i)
      go j l i (no n) = W.least (j / 64) (omega (arith, L.below)) (member_filled j i)

-- one set of the list changed, at the place of i, and the one in front
module _ (ready : List ℕ) (i m n : ℕ) (b : i < 1024) (R : Ready ready) where
  abbrev w : ℕ
  w = i / 64

  abbrev new : List ℕ
  new = set (set ready (w + 1) m) 0 n

  new_front : get_or new 0 0 ≡ n
  new_front = get_or-set_same (set ready (w + 1) m) 0 n 0 (rw length-set (omega (arith, R.long)))

  new_at : (x : ℕ) → x ≡ w → get_or new (x + 1) 0 ≡ m
  new_at x e = rw e (get_or-set_other (set ready (w + 1) m) 0 (w + 1) n 0 (omega arith) ∙ get_or-set_same ready (w + 1) m 0 (omega (arith, R.long)))

  new_not : (x : ℕ) → x ≢ w → get_or new (x + 1) 0 ≡ get_or ready (x + 1) 0
  new_not x h = get_or-set_other (set ready (w + 1) m) 0 (x + 1) n 0 (omega arith) ∙ get_or-set_other ready (w + 1) (x + 1) m 0 (omega arith)

  changed_at : (j : ℕ) (f : ℕ → Bool) → ((x : ℕ) → in_set m x ≡ f x) → j / 64 ≡ w → member new j ≡ f (j % 64)
  unfolding member sets_of
  changed_at j f h e = rw (new_at (j / 64) e) (h (j % 64))

  changed_not : (j : ℕ) → j / 64 ≢ w → member new j ≡ member ready j
  unfolding member sets_of
  changed_not j h = rw (new_not (j / 64) h) refl

  -- the set in front says of the others what it did
  sound_new : in_set n w ≡ not (eqb m 0) → ((x : ℕ) → x ≢ w → in_set n x ≡ in_set (get_or ready 0 0) x) → Ready new
  sound_new e f = record { long = simp length-set R.long; filled = λ x. go x (ℕ_discrete x w) }
    where
      go : (x : ℕ) → Dec (x ≡ w) → in_set (get_or new 0 0) x ≡ not (eqb (get_or new (x + 1) 0) 0)
      go x (yes q) = rw (new_front, new_at x q, q) e
      go x (no q) = rw (new_front, new_not x q) (f x q ∙ R.filled x)

  eqb_place : (j : ℕ) → j / 64 ≡ i / 64 → eqb (j % 64) (i % 64) ≡ eqb j i
  eqb_place j e = go (ℕ_discrete j i)
    where
      go : Dec (j ≡ i) → eqb (j % 64) (i % 64) ≡ eqb j i
      go (yes q) = eq-eqb (j % 64) (i % 64) (omega arith) ∙ sym (eq-eqb j i q)
      go (no q) = ne_eqb (j % 64) (i % 64) (λ z. q (omega arith)) ∙ sym (ne_eqb j i q)

  abbrev old : ℕ
  old = get_or ready (w + 1) 0

  pub marked : m ≡ bit_or old (2 ^ (i % 64)) → n ≡ bit_or (get_or ready 0 0) (2 ^ w) → With ready i new
  unfolding member sets_of
  marked e en = record { sound = sound_new front others; are = λ j. go j (ℕ_discrete (j / 64) w) }
    where
      digit : (x : ℕ) → in_set m x ≡ (eqb x (i % 64) || in_set old x)
      digit x = rw (e, in_set_or old (2 ^ (i % 64)) x, in_set_single (i % 64) x) (or_comm (in_set old x) (eqb x (i % 64)))

      front_is : (x : ℕ) → in_set n x ≡ (in_set (get_or ready 0 0) x || eqb x w)
      front_is x = rw (en, in_set_or (get_or ready 0 0) (2 ^ w) x, in_set_single w x) refl

      on : T (in_set m (i % 64))
      on = rw (digit (i % 64)) (or_l (eqb (i % 64) (i % 64)) (in_set old (i % 64)) (eqb_refl (i % 64)))

      has : eqb m 0 ≡ false
      has = ne_eqb m 0 (λ z. rw (z, in_set_empty (i % 64)) at on)

      front : in_set n w ≡ not (eqb m 0)
      front = front_is w ∙ rw (eq-eqb w w refl, has, or-true (in_set (get_or ready 0 0) w)) refl

      others : (x : ℕ) → x ≢ w → in_set n x ≡ in_set (get_or ready 0 0) x
      others x q = front_is x ∙ rw (ne_eqb x w q) (or-false (in_set (get_or ready 0 0) x))

      go : (j : ℕ) → Dec (j / 64 ≡ w) → member new j ≡ (eqb j i || member ready j)
      go j (yes q) = changed_at j (λ x. eqb x (i % 64) || in_set old x) digit q ∙ rw (eqb_place j q, q) refl
      go j (no q) = changed_not j q ∙ rw (ne_eqb j i (λ z. q (omega arith))) refl

  module _ (h : T (member ready i)) (e : m ≡ old - 2 ^ (i % 64)) where
    was_filled : T (in_set (get_or ready 0 0) w)
    was_filled = member_filled ready R i h

    without : Ready new → Without ready i new
    unfolding member sets_of
    without S = record { sound = S; are = λ j. go j (ℕ_discrete (j / 64) w) }
      where
        go : (j : ℕ) → Dec (j / 64 ≡ w) → member new j ≡ (member ready j && not (eqb j i))
        go j (yes q) = changed_at j (λ x. in_set old x && not (eqb x (i % 64))) (λ x. rw e (in_set_minus (i % 64) old x h)) q ∙ rw (eqb_place j q, q) refl
        go j (no q) = changed_not j q ∙ rw (ne_eqb j i (λ z. q (omega arith))) (sym (and-true (member ready j)))

    -- the last member of its set
    pub unmarked_last : m ≡ 0 → n ≡ get_or ready 0 0 - 2 ^ w → Without ready i new
    unmarked_last z en = without (sound_new front others)
      where
        front_is : (x : ℕ) → in_set n x ≡ (in_set (get_or ready 0 0) x && not (eqb x w))
        front_is x = rw en (in_set_minus w (get_or ready 0 0) x was_filled)

        front : in_set n w ≡ not (eqb m 0)
        front = front_is w ∙ rw (eq-eqb w w refl, eq-eqb m 0 z, and-false (in_set (get_or ready 0 0) w)) refl

        others : (x : ℕ) → x ≢ w → in_set n x ≡ in_set (get_or ready 0 0) x
        others x q = front_is x ∙ rw (ne_eqb x w q) (and-true (in_set (get_or ready 0 0) x))

    not_last : m ≢ 0 → n ≡ get_or ready 0 0 → Without ready i new
    not_last z en = without (sound_new (rw (en, ne_eqb m 0 z) (T→true (in_set (get_or ready 0 0) w) was_filled)) (λ x _. rw en refl))

-- the set in front is not the one changed
module _ (ready : List ℕ) (i m : ℕ) (b : i < 1024) (R : Ready ready) where
  pub front_kept : get_or (set ready (i / 64 + 1) m) 0 0 ≡ get_or ready 0 0
  front_kept = get_or-set_other ready (i / 64 + 1) 0 m 0 (omega arith)

  pub front_member : T (member ready i) → 2 ^ (i / 64) ≤ get_or (set ready (i / 64 + 1) m) 0 0
  front_member h = rw front_kept (in_set_le (i / 64) (get_or ready 0 0) (member_filled ready R i h))

  -- one of several members of its set
  pub unmarked_not_last : T (member ready i) → m ≡ get_or ready (i / 64 + 1) 0 - 2 ^ (i % 64) → m ≢ 0 → Without ready i (set ready (i / 64 + 1) m)
  unmarked_not_last h e z =
      rw (← set-get_or (set ready (i / 64 + 1) m) 0 0)
      (not_last ready i m (get_or (set ready (i / 64 + 1) m) 0 0) b R h e z front_kept)

-- no rank is ready
pub ready_none : Ready (replicate 17 0)
ready_none = record { long = length-replicate {A = ℕ} 17 0; filled = λ w. rw (get_d_zeros 17 0, get_d_zeros 17 (w + 1), in_set_empty w) refl }
