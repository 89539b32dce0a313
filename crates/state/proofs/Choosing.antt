-- Values chosen anew one after the other: with one fact set, and new ones over old ones. Where 64 is none, the effects of an action over the
-- old values are the values after it.
use mathlib.Core.Path.{◌≡◌, refl, sym, ◌∙◌, fun_ext}
use mathlib.Core.Bool.{Bool, true, false}
use mathlib.Core.List.{List}
use mathlib.Core.Option.{Option, none, some}
use Prim.Native.Nat.{ℕ, ◌+◌, ◌-◌, ◌<◌, ◌≤◌}
use native.Mathlib.Omega.{arith}
use native.Mathlib.Decide.{ℕ_discrete, dec_lt}
use borrow.Author.Tests.{eq-eqb, ne_eqb}
use lib.Dec.{eqb}
use lib.ListN.{length, get_or, set, replicate, length-set, get_or-replicate, get_or-eq_default}
use lib.Seq.{get_or-set_same, get_or-set_other, ext_get_or}
use Rattle.planning.specs.Record.{Task}
use Rattle.planning.specs.Runs.{look, act, variables, count}
use Rattle.planning.specs.Newest.{newer}
use Rattle.laws.proofs.Facts.{look_some}
use Rattle.laws.proofs.Formed.{Formed, sorted_has}
use Rattle.sets.specs.Sets.{values_of, choose, over}

pub choose_yes : (b : Bool) (x y : ℕ) → b ≡ true → x ≡ choose b x y
unfolding choose
choose_yes b x y e = rw e refl

pub choose_no : (b : Bool) (x y : ℕ) → b ≡ false → y ≡ choose b x y
unfolding choose
choose_no b x y e = rw e refl

-- the entries below k are those of f
pub record Filled (f : ℕ → ℕ) (r : List ℕ) (k : ℕ) : Type 0 where
  pub long : length r ≡ 64
  pub most : k ≤ 64
  pub below : (j : ℕ) → j < k → get_or r j 0 ≡ f j

module _ (f : ℕ → ℕ) (r : List ℕ) (k : ℕ) (p : Filled f r k) where
  pub filled_turn : k < 64 → (y : ℕ) → y ≡ f k → Filled f (set r k y) (k + 1)
  filled_turn h y e = record {
    long = length-set r k y ∙ p.long;
    most = omega arith;
    below = λ j b. go j b (ℕ_discrete j k);
  }
    where
      go : (j : ℕ) → j < k + 1 → Dec (j ≡ k) → get_or (set r k y) j 0 ≡ f j
      go j b (yes q) = rw q (get_or-set_same r k y 0 (omega (arith, p.long)) ∙ e)
      go j b (no q) = get_or-set_other r k j y 0 q ∙ p.below j (omega arith)

  pub filled_end : 64 ≤ k → ((j : ℕ) → 64 ≤ j → f j ≡ 0) → values_of r ≡ f
  unfolding values_of
  filled_end h past = fun_ext (λ j. go j (dec_lt j 64))
    where
      go : (j : ℕ) → Dec (j < 64) → get_or r j 0 ≡ f j
      go j (yes b) = p.below j (omega arith)
      go j (no b) = get_or-eq_default r 0 (omega (arith, p.long)) ∙ sym (past j (omega arith))

-- one fact set: n is 64 at its variable
pub placed_at : (ns : List ℕ) (v x k n : ℕ) → length ns ≡ 64 → v < 64 → n ≡ 64 - v + k → choose (eqb n 64) x (get_or ns k 0) ≡ values_of (set ns v x) k
unfolding choose values_of
placed_at ns v x k n l h e = go (ℕ_discrete k v)
  where
    go : Dec (k ≡ v) → choose (eqb n 64) x (get_or ns k 0) ≡ get_or (set ns v x) k 0
    go (yes q) = rw (eq-eqb n 64 (omega arith), q) (sym (get_or-set_same ns v x 0 (omega arith)))
    go (no q) = rw (ne_eqb n 64 (λ z. q (omega arith))) (sym (get_or-set_other ns v k x 0 q))

pub placed_end : (ns r : List ℕ) (v x k : ℕ) → length ns ≡ 64 → Filled (values_of (set ns v x)) r k → 64 ≤ k → r ≡ set ns v x
unfolding values_of
placed_end ns r v x k l p h = ext_get_or 0 r (set ns v x) (p.long ∙ sym (length-set ns v x ∙ l)) (λ j b. p.below j (omega (arith, p.long)))

-- new values over old ones
pub over_at : (old new : List ℕ) (k : ℕ) → choose (eqb (get_or new k 0) 64) (get_or old k 0) (get_or new k 0) ≡ over (values_of old) (values_of new) k
unfolding over values_of
over_at old new k = refl

pub over_end : (old new r : List ℕ) (k : ℕ) → length new ≡ 64 → Filled (over (values_of old) (values_of new)) r k → 64 ≤ k → values_of r ≡ over (values_of old) (values_of new)
unfolding over values_of choose
over_end old new r k n p h = filled_end (over (values_of old) (values_of new)) r k p h (λ j b. rw (get_or-eq_default new 0 {n = j} (omega arith)) refl)

-- the effects of an action, stored over 64 in each place
pub over_newer : (t : Task) → Formed t → (i : ℕ) (old new : List ℕ) → length old ≡ 64 → values_of new ≡ newer (act t i) (values_of (replicate 64 64))
    → over (values_of old) (values_of new) ≡ newer (act t i) (values_of old)
unfolding over values_of choose newer
over_newer t F i old new n e = rw e (fun_ext (λ v. go v (look (act t i).eff v) refl (dec_lt v 64)))
  where
    go : (v : ℕ) (o : Option ℕ) → look (act t i).eff v ≡ o → Dec (v < 64) → over (values_of old) (newer (act t i) (values_of (replicate 64 64))) v ≡ newer (act t i) (values_of old) v
    go v none q (yes h) = rw (newer, q, get_or-replicate {A = ℕ} 64 v 64 0 h) refl
    go v none q (no h) = rw (newer, q, get_or-eq_default (replicate {A = ℕ} 64 64) 0 {n = v} (omega arith)) (sym (get_or-eq_default old 0 {n = v} (omega arith)))
    go v (some d) q h =
        let I = sorted_has (variables t) (count t) 0 (act t i).eff (F.eff_sorted i) v d (look_some (act t i).eff v d q) in
        rw (newer, q, ne_eqb d 64 (λ z. omega (arith, I.val_below, F.count_max v))) refl
