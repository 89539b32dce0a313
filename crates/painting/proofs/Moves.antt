-- The move of an action, looked for among its effects: one that it needs is none.
use mathlib.Core.Path.{◌≡◌, refl, sym, ap, ◌∙◌}
use mathlib.Core.Bool.{Bool, true, false, not, ◌&&◌}
use mathlib.Core.List.{List, ◌∷◌}
use Prim.Native.Nat.{ℕ, ◌+◌, ◌*◌, ◌/◌, ◌%◌, ◌<◌, ◌≤◌}
use native.Mathlib.Omega.{arith}
use lib.ListN.{length, get_or, drop}
use Rattle.std.specs.Prelude.{Option, None, Some}
use Rattle.planning.specs.Record.{Fact, Action}
use Rattle.planning.specs.Runs.{has}
use Rattle.planning.specs.Painting.{without, reduced_effects}
use Rattle.task.specs.Task.{fact_of, facts_of}
use Rattle.sets.specs.Sets.{in_set, mode_of}
use Rattle.sets.proofs.Slices.{facts_of_drop, facts_of_end}
use Rattle.painting.specs.Chains.{move_of}

-- the move among the facts from place k on that are not needed
abbrev pub move_from : ℕ → List Fact → List ℕ → ℕ → Option ℕ
move_from paint pre facts k = move_of (mode_of paint) (without pre (facts_of (drop k facts)))

module _ (paint : ℕ) (pre : List Fact) (f : ℕ) (fs : List Fact) where
  kept : has pre (f / 64) (f % 64) ≡ false → without pre (fact_of f ∷ fs) ≡ fact_of f ∷ without pre fs
  unfolding without fact_of
  kept e = rw (without, e) refl

  dropped : has pre (f / 64) (f % 64) ≡ true → without pre (fact_of f ∷ fs) ≡ without pre fs
  unfolding without fact_of
  dropped e = rw (without, e) refl

  Tested : Bool → Bool → Type 0
  Tested x y = (in_set paint (f / 64) ≡ x) × (has pre (f / 64) (f % 64) ≡ y)

  number : 64 * (f / 64) + f % 64 ≡ f
  number = omega arith

  hit : (in_set paint (f / 64) && not (has pre (f / 64) (f % 64))) ≡ true → move_of (mode_of paint) (without pre (fact_of f ∷ fs)) ≡ Some f
  unfolding move_of mode_of fact_of Tested
  hit = go (in_set paint (f / 64)) (has pre (f / 64) (f % 64)) (refl, refl)
    where
      go : (x y : Bool) → Tested x y → (x && not y) ≡ true → move_of (mode_of paint) (without pre (fact_of f ∷ fs)) ≡ Some f
      go true false q e = rw (kept q.1, move_of, q.0) (ap Some number)
      go true true q e = let z : ◌≡◌ {A = ℕ} 0 1 = cc in absurd (omega arith)
      go false y q e = let z : ◌≡◌ {A = ℕ} 0 1 = cc in absurd (omega arith)

  skip : (in_set paint (f / 64) && not (has pre (f / 64) (f % 64))) ≡ false → move_of (mode_of paint) (without pre (fact_of f ∷ fs)) ≡ move_of (mode_of paint) (without pre fs)
  unfolding move_of mode_of fact_of Tested
  skip = go (in_set paint (f / 64)) (has pre (f / 64) (f % 64)) (refl, refl)
    where
      go : (x y : Bool) → Tested x y → (x && not y) ≡ false → move_of (mode_of paint) (without pre (fact_of f ∷ fs)) ≡ move_of (mode_of paint) (without pre fs)
      go x true q e = rw (dropped q.1) refl
      go true false q e = let z : ◌≡◌ {A = ℕ} 0 1 = cc in absurd (omega arith)
      go false false q e = rw (kept q.1, move_of, q.0) refl

module _ (paint : ℕ) (a : Action) (facts : List ℕ) (e : facts_of facts ≡ a.eff) where
  whole : move_from paint a.pre facts 0 ≡ move_of (mode_of paint) (reduced_effects a)
  unfolding reduced_effects
  whole = rw e refl

  module _ (k : ℕ) (M : move_from paint a.pre facts 0 ≡ move_from paint a.pre facts k) where
    pub move_hit : k < length facts → (f : ℕ) → f ≡ get_or facts k 0 → (r : Bool) → r ≡ (in_set paint (f / 64) && not (has a.pre (f / 64) (f % 64))) → r ≡ true
        → Some f ≡ move_of (mode_of paint) (reduced_effects a)
    move_hit h f ef r t q = sym (M ∙ rw (facts_of_drop facts k h, ← ef) (hit paint a.pre f (facts_of (drop (k + 1) facts)) (sym t ∙ q))) ∙ whole

    pub move_skip : k < length facts → (f : ℕ) → f ≡ get_or facts k 0 → (r : Bool) → r ≡ (in_set paint (f / 64) && not (has a.pre (f / 64) (f % 64))) → r ≡ false
        → move_from paint a.pre facts 0 ≡ move_from paint a.pre facts (k + 1)
    move_skip h f ef r t q = M ∙ rw (facts_of_drop facts k h, ← ef) (skip paint a.pre f (facts_of (drop (k + 1) facts)) (sym t ∙ q))

    pub move_none : length facts ≤ k → None ≡ move_of (mode_of paint) (reduced_effects a)
    unfolding move_of without
    move_none h = sym (M ∙ rw (facts_of_end facts k h) refl) ∙ whole
