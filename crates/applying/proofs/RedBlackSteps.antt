-- The red-black state, read off the values held and the newest ones: a step of both is its step. An action whose effects are held adds
-- nothing to the values held.
use mathlib.Core.Path.{◌≡◌, refl, sym, ◌∙◌, fun_ext}
use mathlib.Core.Logic.{inl, inr}
use mathlib.Core.Bool.{Bool, true, false, not, ◌&&◌, ◌||◌, and-false, and-true}
use mathlib.Core.Option.{Option, none, some}
use Prim.Native.Nat.{ℕ, ◌<◌}
use native.Mathlib.Omega.{arith}
use native.Mathlib.Decide.{ℕ_discrete, dec_lt}
use borrow.Author.Tests.{eq-eqb, ne_eqb, lt-ltb}
use lib.Dec.{eqb, ltb}
use Rattle.planning.specs.Record.{Action, Task}
use Rattle.planning.specs.Runs.{State, Mode, has, look, touches, holds, step, variables, variable, black, relaxed, initial}
use Rattle.planning.specs.Newest.{Values, newer, initial_values, alone}
use Rattle.laws.proofs.Tests.{T→true, F→false, true→T, bool_same}
use Rattle.laws.proofs.Facts.{Func, has→touches, touches→has, look_none, look_some, holds→sub}
use Rattle.laws.proofs.Steps.{step_keep, step_cases}
use Rattle.laws.proofs.Newest.{newer_none, newer_some}
use Rattle.sets.specs.Sets.{red_black_of}
use Rattle.sets.proofs.Loading.{black_past}

module _ (m : Mode) (s : State) (f : Values) (v d : ℕ) where
  pub red_black_black : m v ≡ true → red_black_of m s f v d ≡ alone f v d
  unfolding red_black_of
  red_black_black e = rw (red_black_of, e) refl

  pub red_black_red : m v ≡ false → red_black_of m s f v d ≡ s v d
  unfolding red_black_of
  red_black_red e = rw (red_black_of, e) refl

-- of a variable that acts as black the step leaves the newest value alone
alone_step : (a : Action) → Func a.eff → (f : Values) (v d : ℕ) → alone (newer a f) v d ≡ (has a.eff v d || (alone f v d && not (touches a.eff v)))
unfolding alone
alone_step a F f v d = go (look a.eff v) refl
  where
    go : (o : Option ℕ) → look a.eff v ≡ o → eqb d (newer a f v) ≡ (has a.eff v d || (eqb d (f v) && not (touches a.eff v)))
    go none e =
        let h : has a.eff v d ≡ false = F→false (has a.eff v d) (λ x. look_none a.eff v d e x) in
        let t : touches a.eff v ≡ false = F→false (touches a.eff v) (λ x. let w = touches→has a.eff v x in look_none a.eff v w.0 e w.1) in
        rw (newer_none a f v e, h, t, and-true (eqb d (f v))) refl
    go (some x) e = hit (ℕ_discrete d x)
      where
        t : touches a.eff v ≡ true
        t = T→true (touches a.eff v) (has→touches a.eff v x (look_some a.eff v x e))

        hit : Dec (d ≡ x) → eqb d (newer a f v) ≡ (has a.eff v d || (eqb d (f v) && not (touches a.eff v)))
        hit (yes q) =
            let h : has a.eff v d ≡ true = rw q (T→true (has a.eff v x) (look_some a.eff v x e)) in
            rw (newer_some a f v x e, h, eq-eqb d x q) refl
        hit (no q) =
            let h : has a.eff v d ≡ false = F→false (has a.eff v d) (λ y. q (F v d x y (look_some a.eff v x e))) in
            rw (newer_some a f v x e, h, t, ne_eqb d x q, and-false (eqb d (f v))) refl

pub red_black_step : (m : Mode) (a : Action) → Func a.eff → (s : State) (f : Values) → red_black_of m (step relaxed a s) (newer a f) ≡ step m a (red_black_of m s f)
unfolding step
red_black_step m a F s f = fun_ext (λ v. fun_ext (λ d. go v d (m v) refl))
  where
    go : (v d : ℕ) (b : Bool) → m v ≡ b → red_black_of m (step relaxed a s) (newer a f) v d ≡ (has a.eff v d || (red_black_of m s f v d && not (m v && touches a.eff v)))
    go v d true e = red_black_black m (step relaxed a s) (newer a f) v d e ∙ alone_step a F f v d ∙ sym (rw (red_black_black m s f v d e, e) refl)
    go v d false e = red_black_red m (step relaxed a s) (newer a f) v d e ∙ sym (rw (red_black_red m s f v d e, e) refl)

pub red_black_initial : (t : Task) → red_black_of (black t) (initial t) (initial_values t) ≡ initial t
unfolding initial initial_values alone
red_black_initial t = fun_ext (λ v. fun_ext (λ d. go v d (black t v) refl))
  where
    below : (v : ℕ) → black t v ≡ true → Dec (v < variables t) → ltb v (variables t) ≡ true
    below v e (yes h) = lt-ltb v (variables t) h
    below v e (no h) = absurd (rw (black_past t v (omega arith)) at (true→T (black t v) e))

    go : (v d : ℕ) (b : Bool) → black t v ≡ b → red_black_of (black t) (initial t) (initial_values t) v d ≡ (ltb v (variables t) && eqb d (variable t v).init)
    go v d true e = red_black_black (black t) (initial t) (initial_values t) v d e ∙ rw (below v e (dec_lt v (variables t))) refl
    go v d false e = red_black_red (black t) (initial t) (initial_values t) v d e

-- an action whose effects are held adds nothing
pub step_held : (a : Action) (K : State) → holds K a.eff ≡ true → K ≡ step relaxed a K
step_held a K e = fun_ext (λ v. fun_ext (λ d. bool_same (K v d) (step relaxed a K v d)
    (λ h. step_keep relaxed a K v d h (λ z. absurd z))
    (λ h. elim (step_cases relaxed a K v d h) [ inl x ↦ holds→sub K a.eff (true→T (holds K a.eff) e) v d x | inr x ↦ x.0 ])))
