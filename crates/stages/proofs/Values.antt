-- The present value and the test of black facts, by the newest values: those of a black variable are what the red-black state has of it.
use mathlib.Core.Path.{◌≡◌, refl, sym, ap, ◌∙◌, fun_ext}
use mathlib.Core.Bool.{Bool, true, false, not, ◌&&◌, ◌||◌}
use mathlib.Core.List.{List, [], ◌∷◌}
use mathlib.Core.Option.{Option, none, some}
use Prim.Native.Nat.{ℕ, ◌<◌, ◌≤◌}
use native.Mathlib.Omega.{arith}
use borrow.Author.Tests.{eq-eqb}
use lib.Dec.{T, eqb, eqb→eq}
use lib.ListN.{get_or}
use Rattle.planning.specs.Basics.{first}
use Rattle.planning.specs.Record.{Fact, Task}
use Rattle.planning.specs.Runs.{State, count, black}
use Rattle.planning.specs.Newest.{Values, alone}
use Rattle.planning.specs.Painting.{or_zero}
use Rattle.planning.specs.Repair.{value, black_met}
use Rattle.laws.proofs.Below.{First?, first_is}
use Rattle.laws.proofs.Tests.{T→true}
use Rattle.sets.specs.Sets.{values_of, red_black_of}
use Rattle.applying.proofs.RedBlackSteps.{red_black_black}
use Rattle.stages.specs.Stages.{Present}

-- the one value of a set
module _ (count : ℕ → ℕ) (f : Values) (v : ℕ) where
  value_is : f v < count v → f v ≡ value count (alone f) v
  unfolding value or_zero alone
  value_is h = go (first (count v) (λ d. eqb d (f v))) (first_is (count v) (λ d. eqb d (f v)))
    where
      go : (o : Option ℕ) → First? (count v) (λ d. eqb d (f v)) o → f v ≡ or_zero o
      go none n = absurd (n (f v) h (rw (eq-eqb (f v) (f v) refl) tt))
      go (some i) n = sym (eqb→eq i (f v) n.passes)

  value_zero : count v ≤ f v → 0 ≡ value count (alone f) v
  unfolding value or_zero alone
  value_zero h = go (first (count v) (λ d. eqb d (f v))) (first_is (count v) (λ d. eqb d (f v)))
    where
      go : (o : Option ℕ) → First? (count v) (λ d. eqb d (f v)) o → 0 ≡ or_zero o
      go none n = refl
      go (some i) n = absurd (omega (arith, n.below, eqb→eq i (f v) n.passes))

-- newest values as numbers in a list
module _ (t : Task) (ns : List ℕ) (v x : ℕ) (e : x ≡ get_or ns v 0) where
  pub newest_value : x < count t v → x ≡ value (count t) (alone (values_of ns)) v
  unfolding values_of
  newest_value h = e ∙ value_is (count t) (values_of ns) v (omega (arith, e))

  pub newest_none : count t v ≤ x → 0 ≡ value (count t) (alone (values_of ns)) v
  unfolding values_of
  newest_none h = value_zero (count t) (values_of ns) v (omega (arith, e))

-- the same of the red-black state, for black variables
module _ (t : Task) (K : State) (f : Values) where
  abbrev shown : State
  shown = red_black_of (black t) K f

  pub present_shown : (v r : ℕ) → T (black t v) → Present t (alone f) v r → Present t shown v r
  unfolding value
  present_shown v r b p =
      let e : ◌≡◌ {A = ℕ → Bool} (alone f v) (shown v) = fun_ext (λ d. sym (red_black_black (black t) K f v d (T→true (black t v) b))) in
      record { of = p.of; is = p.is ∙ ap (λ (s : ℕ → Bool). or_zero (first (count t v) s)) e; below = p.below }

  pub met_shown : (w : List Fact) → black_met (black t) (alone f) w ≡ black_met (black t) shown w
  unfolding black_met
  met_shown [] = refl
  met_shown (x ∷ w) = rw (met_shown w) (ap (λ (b : Bool). b && black_met (black t) shown w) (go (black t x.var) refl))
    where
      go : (b : Bool) → black t x.var ≡ b → (not (black t x.var) || alone f x.var x.val) ≡ (not (black t x.var) || shown x.var x.val)
      go true e = rw (red_black_black (black t) K f x.var x.val e) refl
      go false e = rw e refl
