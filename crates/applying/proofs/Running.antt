-- The steps that run for real, one action after the other. As long as all do the newest values are the real state, so that the next action is
-- tested on them; once one has failed the count stays.
use mathlib.Core.Path.{◌≡◌, refl, sym, ap, ◌∙◌}
use mathlib.Core.Logic.{◌≢◌}
use mathlib.Core.Bool.{Bool, true, false, and-false}
use mathlib.Core.List.{List, [], ◌∷◌, ◌++◌}
use Prim.Native.Nat.{ℕ, ◌+◌, ◌<◌}
use native.Mathlib.Omega.{arith}
use native.Mathlib.Decide.{ℕ_discrete}
use borrow.Author.Tests.{eq-eqb, ne_eqb}
use lib.Dec.{eqb}
use lib.ListN.{length}
use Rattle.planning.specs.Record.{Task}
use Rattle.planning.specs.Runs.{State, holds, step, real, act, initial, run, steps_run, steps_by}
use Rattle.planning.specs.Newest.{Values, alone}
use Rattle.laws.proofs.Formed.{Formed}
use Rattle.laws.proofs.Prefixes.{steps_by_le, steps_by_on, steps_by_fails, steps_by_stopped}
use Rattle.laws.proofs.Newest.{newest_after, real_applies}
use Rattle.sets.specs.Sets.{further}

module _ (n k : ℕ) where
  pub further_stopped : (b : Bool) → n ≢ k → n ≡ further b n k
  unfolding further
  further_stopped b h = rw (further, ne_eqb n k h) refl

  pub further_on : (b : Bool) → n ≡ k → b ≡ true → n + 1 ≡ further b n k
  unfolding further
  further_on b h e = rw (further, eq-eqb n k h, e) (omega arith)

  pub further_fails : (b : Bool) → b ≡ false → n ≡ further b n k
  unfolding further
  further_fails b e = rw (further, e, and-false (eqb n k)) refl

-- of a list: those of the list with action i behind it
pub further_steps : (t : Task) → Formed t → (l : List ℕ) (f : Values) (runs steps i : ℕ) → f ≡ newest_after t l → runs ≡ steps_run (act t) real l (initial t) → steps ≡ length l
    → further (holds (alone f) (act t i).pre) runs steps ≡ steps_run (act t) real (l ++ (i ∷ [])) (initial t)
unfolding steps_by
further_steps t F l f runs steps i ef er es = go (ℕ_discrete runs steps) (holds (alone f) (act t i).pre) refl
  where
    tests : ℕ → State → Bool
    tests i s = holds s (act t i).pre

    next : ℕ → State → State
    next i = step real (act t i)

    same : holds (run (act t) real l (initial t)) (act t i).pre ≡ holds (alone f) (act t i).pre
    same = real_applies t F l i ∙ ap (λ (g : Values). holds (alone g) (act t i).pre) (sym ef)

    go : Dec (runs ≡ steps) → (b : Bool) → holds (alone f) (act t i).pre ≡ b → further b runs steps ≡ steps_run (act t) real (l ++ (i ∷ [])) (initial t)
    go (yes h) true d = omega (arith, further_on runs steps true h refl, es, er, h, steps_by_on tests next l i [] (initial t) (omega (arith, es, er, h)) (same ∙ d))
    go (yes h) false d = omega (arith, further_fails runs steps false refl, es, er, h, steps_by_fails tests next l i [] (initial t) (omega (arith, es, er, h)) (same ∙ d))
    go (no h) b d =
        let less : steps_run (act t) real l (initial t) < length l = omega (arith, h, es, er, steps_by_le tests next l (initial t)) in
        omega (arith, further_stopped runs steps b h, er, steps_by_stopped tests next l (i ∷ []) (initial t) less)
