-- Reduced effects, and arcs of a variable, from the tests on an action's lists: `arc_from` says that the action leaves v from the value d,
-- wherever its precondition on v, if it has one, is d, and sets another value. That value is then not needed, so that the effect is a
-- reduced one.
use Prim.Native.Nat.{ℕ}
use mathlib.Core.Path.{◌≡◌, refl, sym, ◌∙◌, subst}
use mathlib.Core.Logic.{◌⊎◌, inl, inr, ◌≢◌}
use mathlib.Core.Bool.{Bool, true, false}
use mathlib.Core.List.{List, [], ◌∷◌}
use mathlib.Core.Option.{Option, none, some}
use lib.Dec.{T, T_not, not_T, eqb, eqb→eq, eqb_refl}
use Rattle.planning.specs.Record.{Fact, Action}
use Rattle.planning.specs.Runs.{has, touches, look}
use Rattle.planning.specs.Painting.{without, reduced_effects, fits, leaves, or_zero, target, arc_from}
use Rattle.laws.proofs.Tests.{and_l, and_r, and_i, T_cases}
use Rattle.laws.proofs.Facts.{has_here, has_there, has_nil, has_cases, has→touches, Func, look_some, look_none, look_is}

-- the facts of a list that are not among those of pre
module _ (pre : List Fact) where
  pub without_intro : (fs : List Fact) (v d : ℕ) → T (has fs v d) → (T (has pre v d) → ⊥) → T (has (without pre fs) v d)
  unfolding without
  without_intro [] v d h n = h
  without_intro (f ∷ fs) v d h n = go (has pre f.var f.val) refl (has_cases f fs v d h) (without_intro fs v d)
    where
      go : (b : Bool) → has pre f.var f.val ≡ b → ((v ≡ f.var) × (d ≡ f.val)) ⊎ T (has fs v d) → (T (has fs v d) → (T (has pre v d) → ⊥) → T (has (without pre fs) v d))
          → T (has (elim b [ true ↦ without pre fs | false ↦ f ∷ without pre fs ]) v d)
      go true e (inl z) k = absurd (n (rw (z.0, z.1, e) tt))
      go true e (inr z) k = k z n
      go false e (inl z) k = rw (z.0, z.1) (has_here f (without pre fs))
      go false e (inr z) k = has_there f (without pre fs) v d (k z n)

  pub without_elim : (fs : List Fact) (v d : ℕ) → T (has (without pre fs) v d) → T (has fs v d) × (T (has pre v d) → ⊥)
  unfolding without
  without_elim [] v d h = absurd (has_nil v d h)
  without_elim (f ∷ fs) v d h = go (has pre f.var f.val) refl h (without_elim fs v d)
    where
      go : (b : Bool) → has pre f.var f.val ≡ b → T (has (elim b [ true ↦ without pre fs | false ↦ f ∷ without pre fs ]) v d)
          → (T (has (without pre fs) v d) → T (has fs v d) × (T (has pre v d) → ⊥)) → T (has (f ∷ fs) v d) × (T (has pre v d) → ⊥)
      go true e h k = (has_there f fs v d (k h).0, (k h).1)
      go false e h k = elim (has_cases f (without pre fs) v d h) [
        | inl z ↦ (rw (z.0, z.1) (has_here f fs), λ p. subst (λ b. T b) e (rw (z.0, z.1) at p))
        | inr z ↦ (has_there f fs v d (k z).0, (k z).1)
      ]

module _ (a : Action) where
  pub reduced_intro : (v d : ℕ) → T (has a.eff v d) → (T (has a.pre v d) → ⊥) → T (has (reduced_effects a) v d)
  unfolding reduced_effects
  reduced_intro v d h n = without_intro a.pre a.eff v d h n

  pub reduced_elim : (v d : ℕ) → T (has (reduced_effects a) v d) → T (has a.eff v d) × (T (has a.pre v d) → ⊥)
  unfolding reduced_effects
  reduced_elim v d h = without_elim a.pre a.eff v d h

  pub reduced_func : Func a.eff → Func (reduced_effects a)
  reduced_func f u x y h g = f u x y (reduced_elim u x h).0 (reduced_elim u y g).0

  -- what it sets of a variable that it does not change, it needs
  pub unchanged : (v d : ℕ) → (T (touches (reduced_effects a) v) → ⊥) → T (has a.eff v d) → T (has a.pre v d)
  unchanged v d n h = elim (T_cases (has a.pre v d)) [
    | inl p ↦ p
    | inr p ↦ absurd (n (has→touches (reduced_effects a) v d (reduced_intro v d h (T_not (has a.pre v d) p))))
  ]

fits_elim : (fs : List Fact) (v c : ℕ) → Func fs → (o : Option ℕ) → look fs v ≡ o → T (fits o c) → (x : ℕ) → T (has fs v x) → x ≡ c
unfolding fits
fits_elim fs v c f none e t x h = absurd (look_none fs v x e h)
fits_elim fs v c f (some y) e t x h = f v x y h (look_some fs v y e) ∙ eqb→eq y c t

fits_intro : (fs : List Fact) (v c : ℕ) → (o : Option ℕ) → look fs v ≡ o → ((x : ℕ) → T (has fs v x) → x ≡ c) → T (fits o c)
unfolding fits
fits_intro fs v c none e h = tt
fits_intro fs v c (some y) e h = rw (h y (look_some fs v y e)) (eqb_refl c)

leaves_elim : (fs : List Fact) (v c : ℕ) → (o : Option ℕ) → look fs v ≡ o → T (leaves o c) → T (has fs v (or_zero o)) × (c ≢ or_zero o)
unfolding leaves or_zero
leaves_elim fs v c none e t = absurd t
leaves_elim fs v c (some y) e t = (look_some fs v y e, λ q. T_not (eqb c y) t (rw q (eqb_refl y)))

leaves_intro : (c d : ℕ) → c ≢ d → T (leaves (some d) c)
unfolding leaves
leaves_intro c d h = not_T (eqb c d) (λ t. h (eqb→eq c d t))

-- action i takes v from d to e
pub record Arc (act : ℕ → Action) (v i d e : ℕ) : Type 0 where
  pub from : (x : ℕ) → T (has (act i).pre v x) → x ≡ d
  pub into : T (has (act i).eff v e)
  pub leaves' : d ≢ e

pub arc_from_elim : (act : ℕ → Action) (v d i : ℕ) → Func (act i).pre → T (arc_from act v d i) → Arc act v i d (target act v i)
unfolding arc_from target
arc_from_elim act v d i f t =
    let r : List Fact = reduced_effects (act i) in
    let l = leaves_elim r v d (look r v) refl (search and_r) in
    record { from = fits_elim (act i).pre v d f (look (act i).pre v) refl (search and_l); into = (reduced_elim (act i) v (target act v i) l.0).0; leaves' = l.1 }

-- an arc is by a reduced effect: a value needed would be the one left
pub arc_reduced : (act : ℕ → Action) (v d e i : ℕ) → Arc act v i d e → T (has (reduced_effects (act i)) v e)
arc_reduced act v d e i a = reduced_intro (act i) v e a.into (λ p. a.leaves' (sym (a.from e p)))

pub arc_from_intro : (act : ℕ → Action) (v d e i : ℕ) → Func (act i).eff → Arc act v i d e → T (arc_from act v d i) × (target act v i ≡ e)
unfolding arc_from target or_zero
arc_from_intro act v d e i f a =
    let r : List Fact = reduced_effects (act i) in
    let q = look_is r v e (reduced_func (act i) f) (arc_reduced act v d e i a) (look r v) refl in
    let b = fits_intro (act i).pre v d (look (act i).pre v) refl a.from in
    let l : T (leaves (look r v) d) = rw q (leaves_intro d e a.leaves') in
    (and_i (fits (look (act i).pre v) d) (leaves (look r v) d) b l, rw q refl)
