-- A label noted for the values of a set: the members still to come stand as they were, the others are noted.
use Rattle.std.proofs.Common.{◌≡◌, refl, ◌∙◌, Bool, true, false, not, ◌&&◌, List, ℕ, ◌<◌, min, T, eqb, arith, length, get_or, get_or-set_same, get_or-set_other}
use Rattle.std.proofs.Math.ListN.{set, length-set}
use native.Mathlib.Decide.{ℕ_discrete}
use Rattle.sets.specs.Sets.{in_set}
use Rattle.sets.proofs.Members.{in_set_empty}
use Rattle.labels.specs.Labels.{lower}
use Rattle.labels.proofs.Coming.{left_of, left_out, left_in}

pub record Marking (old labels : List ℕ) (m l rest : ℕ) : Type 0 where
  pub long : length labels ≡ 64
  pub inside : (x : ℕ) → T (in_set rest x) → T (in_set m x)
  pub marked : (x : ℕ) → (T (in_set rest x) → ⊥) → get_or labels x 0 ≡ lower (in_set m x) l (get_or old x 0)
  pub left : (x : ℕ) → T (in_set rest x) → get_or labels x 0 ≡ get_or old x 0

lower_out : (b : Bool) (i x : ℕ) → (T b → ⊥) → x ≡ lower b i x
unfolding lower
lower_out true i x h = absurd (h tt)
lower_out false i x h = refl

lower_in : (b : Bool) (i x y : ℕ) → T b → x ≡ y → min i x ≡ lower b i y
unfolding lower
lower_in true i x y h e = rw e refl
lower_in false i x y h e = absurd h

pub marking_start : (labels : List ℕ) (m l rest : ℕ) → length labels ≡ 64 → rest ≡ m → Marking labels labels m l rest
marking_start labels m l rest n e = rw e record {
  long = n;
  inside = λ x h. h;
  marked = λ x h. lower_out (in_set m x) l (get_or labels x 0) h;
  left = λ x h. refl;
}

module _ (old labels : List ℕ) (m l rest : ℕ) (g : Marking old labels m l rest) where
  pub marking_turn : (c w r : ℕ) → c < 64 → T (in_set rest c) → ((x : ℕ) → in_set r x ≡ (in_set rest x && not (eqb x c))) → w ≡ min l (get_or labels c 0) → Marking old (set labels c w) m l r
  marking_turn c w r b i k e = record {
    long = length-set labels c w ∙ g.long;
    inside = λ x h. g.inside x (left_of rest c r k x h);
    marked = λ x h. go x h (ℕ_discrete x c);
    left = λ x h. get_or-set_other labels c x w 0 (λ q. left_out rest c r k (rw q at h)) ∙ g.left x (left_of rest c r k x h);
  }
    where
      go : (x : ℕ) → (T (in_set r x) → ⊥) → Dec (x ≡ c) → get_or (set labels c w) x 0 ≡ lower (in_set m x) l (get_or old x 0)
      go x h (yes q) = rw q (get_or-set_same labels c w 0 (omega (arith, g.long)) ∙ e ∙ lower_in (in_set m c) l (get_or labels c 0) (get_or old c 0) (g.inside c i) (g.left c i))
      go x h (no q) = get_or-set_other labels c x w 0 q ∙ g.marked x (λ s. h (left_in rest c r k x s q))

  pub marking_end : rest ≡ 0 → (x : ℕ) → x < 64 → get_or labels x 0 ≡ lower (in_set m x) l (get_or old x 0)
  marking_end e x b = g.marked x (λ h. rw (e, in_set_empty) at h)
