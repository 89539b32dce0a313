-- The first steps of a list, over any semantics: how many run is told of them alone once one fails, and goes on with the next step as
-- long as none does.
use Prim.Native.Nat.{ℕ, suc, ◌+◌, ◌≤◌, ◌<◌}
use mathlib.Core.Path.{◌≡◌, refl, sym, ap, ◌∙◌}
use mathlib.Core.Bool.{Bool, true, false}
use mathlib.Core.List.{List, [], ◌∷◌, ◌++◌}
use lib.ListN.{length}
use native.Mathlib.Omega.{arith}
use Rattle.planning.specs.Runs.{run_by, steps_by}

module _ {S : Type 0} (next : ℕ → S → S) where
  pub run_by_append : (l k : List ℕ) (s : S) → run_by next (l ++ k) s ≡ run_by next k (run_by next l s)
  unfolding run_by
  run_by_append [] k s = refl
  run_by_append (i ∷ l) k s = run_by_append l k (next i s)

  pub run_by_behind : (l : List ℕ) (i : ℕ) (s : S) → run_by next (l ++ (i ∷ [])) s ≡ next i (run_by next l s)
  unfolding run_by
  run_by_behind l i s = run_by_append l (i ∷ []) s

module _ {S : Type 0} (applies : ℕ → S → Bool) (next : ℕ → S → S) where
  pub steps_by_pass : (i : ℕ) (l : List ℕ) (s : S) → applies i s ≡ true → steps_by applies next (i ∷ l) s ≡ suc (steps_by applies next l (next i s))
  unfolding steps_by
  steps_by_pass i l s e = rw (steps_by, e) refl

  pub steps_by_stop : (i : ℕ) (l : List ℕ) (s : S) → applies i s ≡ false → steps_by applies next (i ∷ l) s ≡ 0
  unfolding steps_by
  steps_by_stop i l s e = rw (steps_by, e) refl

  pub steps_by_le : (l : List ℕ) (s : S) → steps_by applies next l s ≤ length l
  unfolding steps_by
  steps_by_le [] s = omega arith
  steps_by_le (i ∷ l) s = go (applies i s) refl (steps_by_le l (next i s))
    where
      go : (b : Bool) → applies i s ≡ b → steps_by applies next l (next i s) ≤ length l → steps_by applies next (i ∷ l) s ≤ suc (length l)
      go true e h = omega (arith, steps_by_pass i l s e)
      go false e h = omega (arith, steps_by_stop i l s e)

  -- a step failed: what follows does not count
  pub steps_by_stopped : (l k : List ℕ) (s : S) → steps_by applies next l s < length l → steps_by applies next (l ++ k) s ≡ steps_by applies next l s
  steps_by_stopped [] k s h = absurd (omega arith)
  steps_by_stopped (i ∷ l) k s h = go (applies i s) refl (steps_by_stopped l k (next i s))
    where
      go : (b : Bool) → applies i s ≡ b → (steps_by applies next l (next i s) < length l → steps_by applies next (l ++ k) (next i s) ≡ steps_by applies next l (next i s))
          → steps_by applies next (i ∷ (l ++ k)) s ≡ steps_by applies next (i ∷ l) s
      go true e more = steps_by_pass i (l ++ k) s e ∙ ap suc (more (omega (arith, h, steps_by_pass i l s e))) ∙ sym (steps_by_pass i l s e)
      go false e more = steps_by_stop i (l ++ k) s e ∙ sym (steps_by_stop i l s e)

  -- none failed: what follows runs on
  pub steps_by_append : (l k : List ℕ) (s : S) → steps_by applies next l s ≡ length l → steps_by applies next (l ++ k) s ≡ length l + steps_by applies next k (run_by next l s)
  unfolding run_by
  steps_by_append [] k s h = omega arith
  steps_by_append (i ∷ l) k s h = go (applies i s) refl (steps_by_append l k (next i s))
    where
      go : (b : Bool) → applies i s ≡ b → (steps_by applies next l (next i s) ≡ length l → steps_by applies next (l ++ k) (next i s) ≡ length l + steps_by applies next k (run_by next l (next i s)))
          → steps_by applies next (i ∷ (l ++ k)) s ≡ suc (length l) + steps_by applies next k (run_by next l (next i s))
      go true e more = omega (arith, steps_by_pass i (l ++ k) s e, more (omega (arith, h, steps_by_pass i l s e)))
      go false e more = absurd (omega (arith, h, steps_by_stop i l s e))

  pub steps_by_on : (l : List ℕ) (i : ℕ) (k : List ℕ) (s : S) → steps_by applies next l s ≡ length l → applies i (run_by next l s) ≡ true
      → steps_by applies next (l ++ (i ∷ k)) s ≡ suc (length l + steps_by applies next k (next i (run_by next l s)))
  steps_by_on l i k s h e = omega (arith, steps_by_append l (i ∷ k) s h, steps_by_pass i k (run_by next l s) e)

  pub steps_by_fails : (l : List ℕ) (i : ℕ) (k : List ℕ) (s : S) → steps_by applies next l s ≡ length l → applies i (run_by next l s) ≡ false → steps_by applies next (l ++ (i ∷ k)) s ≡ length l
  steps_by_fails l i k s h e = omega (arith, steps_by_append l (i ∷ k) s h, steps_by_stop i k (run_by next l s) e)
