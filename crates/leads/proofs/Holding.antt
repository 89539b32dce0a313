-- Facts that are held or whose variable is not in a set; and when leads stay.
use mathlib.Core.Path.{◌≡◌, refl, ◌∙◌, subst}
use mathlib.Core.Logic.{◌⊎◌, inl, inr}
use mathlib.Core.Bool.{Bool, true, false, not, ◌&&◌, ◌||◌}
use mathlib.Core.List.{List, [], ◌∷◌}
use Prim.Native.Nat.{ℕ, ◌+◌, ◌/◌, ◌%◌, ◌<◌, ◌≤◌}
use lib.Dec.{T}
use lib.ListN.{length, get_or, drop}
use Rattle.planning.specs.Record.{Fact, Task}
use Rattle.planning.specs.Runs.{State, Mode, has, relaxed, step, actions, act}
use Rattle.planning.specs.Repair.{black_met}
use Rattle.laws.proofs.Facts.{has_nil, has_cases}
use Rattle.laws.proofs.Steps.{step_keep, step_cases}
use Rattle.laws.proofs.Tests.{true→T, and_l, and_r}
use Rattle.task.specs.Task.{fact_of, facts_of}
use Rattle.sets.specs.Sets.{mode_of}
use Rattle.sets.proofs.Slices.{facts_of_drop, facts_of_end}
use Rattle.paths.specs.Paths.{Memo, Covers}
use Rattle.paths.proofs.Needing.{memo_same}

-- one turn of a loop over facts, and its end
module _ (l : List ℕ) (k : ℕ) (h : k < length l) (m : Mode) (s : State) (f : ℕ) (ef : f ≡ get_or l k 0) where
  abbrev rest : Bool
  rest = black_met m s (facts_of (drop (k + 1) l))

  met_cons : black_met m s (facts_of (drop k l)) ≡ ((not (m (f / 64)) || s (f / 64) (f % 64)) && rest)
  unfolding black_met fact_of
  met_cons = rw (facts_of_drop l k h, ← ef) refl

  pub met_fails : (m (f / 64) && not (s (f / 64) (f % 64))) ≡ true → black_met m s (facts_of (drop k l)) ≡ false
  met_fails a = met_cons ∙ go (m (f / 64)) (s (f / 64) (f % 64)) rest a
    where
      go : (x y z : Bool) → (x && not y) ≡ true → ((not x || y) && z) ≡ false
      go true true z e = absurd (cc)
      go true false z e = refl
      go false y z e = absurd (cc)

  pub met_passes : (m (f / 64) && not (s (f / 64) (f % 64))) ≡ false → black_met m s (facts_of (drop k l)) ≡ rest
  met_passes a = met_cons ∙ go (m (f / 64)) (s (f / 64) (f % 64)) rest a
    where
      go : (x y z : Bool) → (x && not y) ≡ false → ((not x || y) && z) ≡ z
      go true true z e = refl
      go true false z e = absurd (cc)
      go false y z e = refl

pub met_end : (l : List ℕ) (k : ℕ) (m : Mode) (s : State) → length l ≤ k → black_met m s (facts_of (drop k l)) ≡ true
unfolding black_met
met_end l k m s h = rw (facts_of_end l k h) refl

-- a black fact that is not held
pub unmet_black : (b h x : Bool) → h ≡ x → b ≡ true → not h ≡ (b && not x)
unmet_black b h x e q = rw (e, q) refl

pub unmet_red : (b x : Bool) → b ≡ false → false ≡ (b && not x)
unmet_red b x q = rw q refl

-- the facts of the list whose variable is in the set are held
met_holds : (m : Mode) (s : State) (fs : List Fact) → T (black_met m s fs) → (v d : ℕ) → T (has fs v d) → T (m v) → T (s v d)
unfolding black_met
met_holds m s [] h v d x y = absurd (has_nil v d x)
met_holds m s (f ∷ fs) h v d x y = go (has_cases f fs v d x) (met_holds m s fs (and_r (not (m f.var) || s f.var f.val) (black_met m s fs) h) v d)
  where
    here : T (m f.var) → T (s f.var f.val)
    here q = pick (m f.var) (s f.var f.val) (and_l (not (m f.var) || s f.var f.val) (black_met m s fs) h) q
      where
        pick : (a b : Bool) → T (not a || b) → T a → T b
        pick true b p q = p
        pick false b p q = absurd q

    go : ((v ≡ f.var) × (d ≡ f.val)) ⊎ T (has fs v d) → (T (has fs v d) → T (m v) → T (s v d)) → T (s v d)
    go (inl e) k = rw (e.0, e.1) (here (subst (λ (z : ℕ). T (m z)) e.0 y))
    go (inr z) k = k z y

-- the leads stay
pub refresh_kept : (t : Task) (K : State) (memo : List ℕ) (i m : ℕ) → Covers t (actions t) m → Memo t K memo → black_met (mode_of m) K (act t i).eff ≡ true → Memo t (step relaxed (act t i) K) memo
unfolding mode_of
refresh_kept t K memo i m C M e = memo_same t m C K (step relaxed (act t i) K) (λ v d h. step_keep relaxed (act t i) K v d h (λ z. absurd z))
    (λ v d q x. elim (step_cases relaxed (act t i) K v d x) [
      | inl h ↦ met_holds (mode_of m) K (act t i).eff (true→T (black_met (mode_of m) K (act t i).eff) e) v d h q
      | inr h ↦ h.0
    ]) memo M
