-- Newest values, for every list and every semantics by one induction (`fresh_run`): the newest value is in the set (`fresh`, `held`), and it
-- is the only one of a variable that acts as black (`set_alone`). They do not depend on the painting (`newest_any`). In a real run all
-- variables act as black, so that the newest values are the real state (`real_state`); hence one run of any semantics tells how many steps
-- run for real, tested on its newest values (`real_steps`), and that state after each of them.
use Prim.Native.Nat.{ℕ, zero, suc, ◌<◌}
use mathlib.Core.Path.{◌≡◌, refl, sym, ap, ◌∙◌}
use mathlib.Core.Logic.{◌⊎◌, inl, inr}
use mathlib.Core.Bool.{Bool, true, false}
use mathlib.Core.List.{List, [], ◌∷◌, ◌++◌}
use mathlib.Core.Option.{Option, none, some}
use lib.Dec.{T, eqb, eqb→eq, eqb_refl, ltb, lt→ltb}
use lib.ListN.{length}
use Rattle.planning.specs.Record.{Fact, Action, Task}
use Rattle.planning.specs.Runs.{State, Mode, has, touches, look, holds, step, real, variables, variable, count, act, initial, run, steps_run, run_by, steps_by}
use Rattle.planning.specs.Newest.{Values, initial_values, newer, Tracked, tracked, track, alone, tabulate}
use Rattle.laws.proofs.Tests.{T→true, F→false, and_r, and_i}
use Rattle.laws.proofs.Facts.{has_here, has_there, has→touches, touches→has, look_some, look_none, look_is, Func}
use Rattle.laws.proofs.Steps.{step_eff, step_keep, step_cases}
use Rattle.laws.proofs.Formed.{Formed, sorted_has, eff_func}
use Rattle.laws.proofs.Prefixes.{run_by_behind, steps_by_pass, steps_by_stop}

-- an effect sets the newest value; other variables keep theirs
module _ (a : Action) (f : Values) (v : ℕ) where
  pub newer_some : (d : ℕ) → look a.eff v ≡ some d → newer a f v ≡ d
  unfolding newer
  newer_some d e = rw (newer, e) refl

  pub newer_none : look a.eff v ≡ none → newer a f v ≡ f v
  unfolding newer
  newer_none e = rw (newer, e) refl

-- of the variables below n: the newest value is in the set, and alone there if the variable acts as black
pub record Fresh (n : ℕ) (m : Mode) (x : Tracked) : Type 0 where
  pub held : (v : ℕ) → v < n → T (x.sets v (x.newest v))
  pub only : (v d : ℕ) → T (m v) → T (x.sets v d) → d ≡ x.newest v

module _ (n : ℕ) (m : Mode) where
  fresh_step : (a : Action) → Func a.eff → (x : Tracked) → Fresh n m x → Fresh n m (track m a x)
  unfolding track
  fresh_step a F x X = record { held = λ v h. keeps v h (look a.eff v) refl; only = λ v d b h. alone' v d b (step_cases m a x.sets v d h) }
    where
      keeps : (v : ℕ) → v < n → (o : Option ℕ) → look a.eff v ≡ o → T (step m a x.sets v (newer a x.newest v))
      keeps v h none e =
          rw (newer_none a x.newest v e)
          (step_keep m a x.sets v (x.newest v) (X.held v h) (λ b q. let w = touches→has a.eff v q in look_none a.eff v w.0 e w.1))
      keeps v h (some d) e = rw (newer_some a x.newest v d e) (step_eff m a x.sets v d (look_some a.eff v d e))

      old : (v d : ℕ) → T (m v) → T (x.sets v d) → (T (touches a.eff v) → ⊥) → (o : Option ℕ) → look a.eff v ≡ o → d ≡ newer a x.newest v
      old v d b h q none e = X.only v d b h ∙ sym (newer_none a x.newest v e)
      old v d b h q (some c) e = absurd (q (has→touches a.eff v c (look_some a.eff v c e)))

      alone' : (v d : ℕ) → T (m v) → T (has a.eff v d) ⊎ (T (x.sets v d) × (T (m v) → T (touches a.eff v) → ⊥)) → d ≡ newer a x.newest v
      alone' v d b (inl h) = sym (newer_some a x.newest v d (look_is a.eff v d F h (look a.eff v) refl))
      alone' v d b (inr k) = old v d b k.0 (k.1 b) (look a.eff v) refl

  fresh_run : (act : ℕ → Action) → ((i : ℕ) → Func (act i).eff) → (l : List ℕ) (x : Tracked) → Fresh n m x → Fresh n m (run_by (λ i. track m (act i)) l x)
  unfolding run_by
  fresh_run act F [] x X = X
  fresh_run act F (i ∷ l) x X = fresh_run act F l (track m (act i) x) (fresh_step (act i) (F i) x X)

-- where the variable acts as black the set is the newest value alone
pub set_alone : (n : ℕ) (m : Mode) (x : Tracked) → Fresh n m x → (v d : ℕ) → v < n → T (m v) → x.sets v d ≡ alone x.newest v d
unfolding alone
set_alone n m x X v d h b = go (x.sets v d) refl
  where
    go : (c : Bool) → x.sets v d ≡ c → c ≡ eqb d (x.newest v)
    go true e = sym (T→true (eqb d (x.newest v)) (rw (X.only v d b (rw e tt)) (eqb_refl (x.newest v))))
    go false e = sym (F→false (eqb d (x.newest v)) (λ q. let y : T (x.sets v d) = rw (eqb→eq d (x.newest v) q) (X.held v h) in rw e at y))

-- sets and newest values are each those of a run of their own, the latter without a mode
module _ (act : ℕ → Action) (m : Mode) where
  pub track_sets : (l : List ℕ) (x : Tracked) → (run_by (λ i. track m (act i)) l x).sets ≡ run act m l x.sets
  unfolding run_by track
  track_sets [] x = refl
  track_sets (i ∷ l) x = track_sets l (track m (act i) x)

  pub track_newest : (l : List ℕ) (x : Tracked) → (run_by (λ i. track m (act i)) l x).newest ≡ run_by (λ i. newer (act i)) l x.newest
  unfolding run_by track
  track_newest [] x = refl
  track_newest (i ∷ l) x = track_newest l (track m (act i) x)

-- two states that agree on the facts of a list hold it alike
pub holds_same : (s u : State) (fs : List Fact) → ((v d : ℕ) → T (has fs v d) → s v d ≡ u v d) → holds s fs ≡ holds u fs
unfolding holds
holds_same s u [] h = refl
holds_same s u (f ∷ fs) h = rw (h f.var f.val (has_here f fs), holds_same s u fs (λ v d t. h v d (has_there f fs v d t))) refl

-- the newest values after a list, whatever the painting
abbrev pub newest_after : Task → List ℕ → Values
newest_after t l = run_by (λ i. newer (act t i)) l (initial_values t)

pub newest_any : (t : Task) (m : Mode) (l : List ℕ) → (run_by (λ i. track m (act t i)) l (tracked t)).newest ≡ newest_after t l
unfolding tracked
newest_any t m l = track_newest (act t) m l (tracked t)

module _ (t : Task) (F : Formed t) where
  fresh_initial : (m : Mode) → Fresh (variables t) m (tracked t)
  unfolding tracked initial initial_values
  fresh_initial m = record {
    held = λ v h. and_i (ltb v (variables t)) (eqb (variable t v).init (variable t v).init) (lt→ltb v (variables t) h) (eqb_refl (variable t v).init);
    only = λ v d b h. eqb→eq d (variable t v).init (and_r (ltb v (variables t)) (eqb d (variable t v).init) h);
  }

  -- the law, for every list and semantics from the initial state
  pub fresh : (m : Mode) (l : List ℕ) → Fresh (variables t) m (run_by (λ i. track m (act t i)) l (tracked t))
  fresh m l = fresh_run (variables t) m (act t) (λ i. eff_func t F i) l (tracked t) (fresh_initial m)

  -- the real state: the newest values alone
  pub real_state : (l : List ℕ) (v d : ℕ) → v < variables t → run (act t) real l (initial t) v d ≡ alone (newest_after t l) v d
  unfolding tracked
  real_state l v d h =
      let e = set_alone (variables t) real (run_by (λ i. track real (act t i)) l (tracked t)) (fresh real l) v d h tt in
      rw (track_sets (act t) real l (tracked t), newest_any t real l) at e

  pub real_holds : (l : List ℕ) (fs : List Fact) → ((v d : ℕ) → T (has fs v d) → v < variables t) → holds (run (act t) real l (initial t)) fs ≡ holds (alone (newest_after t l)) fs
  real_holds l fs h = holds_same (run (act t) real l (initial t)) (alone (newest_after t l)) fs (λ v d x. real_state l v d (h v d x))

  pub real_applies : (l : List ℕ) (i : ℕ) → holds (run (act t) real l (initial t)) (act t i).pre ≡ holds (alone (newest_after t l)) (act t i).pre
  real_applies l i = real_holds l (act t i).pre (λ v d x. (sorted_has (variables t) (count t) 0 (act t i).pre (F.pre_sorted i) v d x).var_below)

  -- one run of any semantics tells the steps that run for real: those that apply to its newest values
  module _ (m : Mode) where
    abbrev seen : List ℕ → Tracked
    seen p = run_by (λ i. track m (act t i)) p (tracked t)

    abbrev counts : List ℕ → Tracked → ℕ
    counts = steps_by (λ i x. holds (alone x.newest) (act t i).pre) (λ i. track m (act t i))

    real_steps_from : (l p : List ℕ) → steps_run (act t) real l (run (act t) real p (initial t)) ≡ counts l (seen p)
    unfolding steps_by
    real_steps_from [] p = refl
    real_steps_from (i ∷ l) p = go (holds (run (act t) real p (initial t)) (act t i).pre) refl (real_steps_from l (p ++ (i ∷ [])))
      where
        here : holds (run (act t) real p (initial t)) (act t i).pre ≡ holds (alone (seen p).newest) (act t i).pre
        here = rw (newest_any t m p) (real_applies p i)

        go : (b : Bool) → holds (run (act t) real p (initial t)) (act t i).pre ≡ b
            → steps_run (act t) real l (run (act t) real (p ++ (i ∷ [])) (initial t)) ≡ counts l (seen (p ++ (i ∷ [])))
            → steps_run (act t) real (i ∷ l) (run (act t) real p (initial t)) ≡ counts (i ∷ l) (seen p)
        go true e more =
            steps_by_pass (λ i s. holds s (act t i).pre) (λ i. step real (act t i)) i l (run (act t) real p (initial t)) e
            ∙ ap suc (rw (run_by_behind (λ i. step real (act t i)) p i (initial t), run_by_behind (λ i. track m (act t i)) p i (tracked t)) at more)
            ∙ sym (steps_by_pass (λ i x. holds (alone x.newest) (act t i).pre) (λ i. track m (act t i)) i l (seen p) (sym here ∙ e))
        go false e more =
            steps_by_stop (λ i s. holds s (act t i).pre) (λ i. step real (act t i)) i l (run (act t) real p (initial t)) e
            ∙ sym (steps_by_stop (λ i x. holds (alone x.newest) (act t i).pre) (λ i. track m (act t i)) i l (seen p) (sym here ∙ e))

    pub real_steps : (l : List ℕ) → steps_run (act t) real l (initial t) ≡ steps_by (λ i x. holds (alone x.newest) (act t i).pre) (λ i. track m (act t i)) l (tracked t)
    unfolding run_by
    real_steps l = real_steps_from l []

-- the numbers of a table
pub tabulate_length : (n : ℕ) (f : ℕ → ℕ) → length (tabulate n f) ≡ n
unfolding tabulate
tabulate_length zero f = refl
tabulate_length (suc n) f = ap suc (tabulate_length n (λ v. f (suc v)))
