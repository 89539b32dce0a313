-- Sets of actions, and actions whose effects are held: facts held stay held, and an action's effects are held behind it.
use mathlib.Core.Path.{◌≡◌, sym, subst}
use mathlib.Core.Logic.{◌⊎◌, inl, inr}
use mathlib.Core.Bool.{true}
use mathlib.Core.List.{List}
use Prim.Native.Nat.{ℕ, ◌/◌, ◌%◌, ◌^◌, ◌<◌}
use native.Mathlib.Omega.{arith}
use native.Mathlib.Decide.{ℕ_discrete}
use lib.Bits.{bit_or}
use lib.Dec.{T, eqb, eqb→eq}
use lib.ListN.{length, get_or, set, replicate, length-set, length-replicate, get_or-replicate}
use lib.Seq.{get_or-set_same, get_or-set_other}
use Rattle.planning.specs.Record.{Action, Task}
use Rattle.planning.specs.Runs.{State, holds, step, relaxed, act}
use Rattle.laws.proofs.Tests.{or_cases}
use Rattle.laws.proofs.Facts.{holds→sub, sub→holds}
use Rattle.laws.proofs.Steps.{step_eff, step_keep}
use Rattle.sets.specs.Sets.{in_set, listed, Known, WithOnly}
use Rattle.sets.proofs.Members.{in_set_empty, in_set_or, in_set_single}
use Rattle.applying.proofs.RedBlackSteps.{step_held}

-- action i joins the set
module _ (set₀ : List ℕ) (long : length set₀ ≡ 16) (i w : ℕ) (near : i < 1024) (e : w ≡ bit_or (get_or set₀ (i / 64) 0) (2 ^ (i % 64))) where
  pub listed_more : WithOnly i set₀ (set set₀ (i / 64) w)
  unfolding listed
  listed_more j b h = go (ℕ_discrete (j / 64) (i / 64))
    where
      old : ℕ
      old = get_or set₀ (i / 64) 0

      either : j / 64 ≡ i / 64 → T (in_set old (j % 64)) ⊎ T (eqb (j % 64) (i % 64)) → (j ≡ i) ⊎ T (in_set (get_or set₀ (j / 64) 0) (j % 64))
      either q (inl x) = inr (rw q x)
      either q (inr x) = inl (omega (arith, eqb→eq (j % 64) (i % 64) x))

      go : Dec (j / 64 ≡ i / 64) → (j ≡ i) ⊎ T (in_set (get_or set₀ (j / 64) 0) (j % 64))
      go (yes q) =
          either q (or_cases (in_set old (j % 64)) (eqb (j % 64) (i % 64))
          (rw (q, get_or-set_same set₀ (i / 64) w 0 (omega (arith, long)), e, in_set_or old (2 ^ (i % 64)) (j % 64), in_set_single (i % 64) (j % 64)) at h))
      go (no q) = inr (rw (get_or-set_other set₀ (i / 64) (j / 64) w 0 q) at h)

pub listed_none : (set : List ℕ) → set ≡ replicate 16 0 → (i : ℕ) → i < 1024 → T (listed set i) → ⊥
unfolding listed
listed_none set e i b h = subst T (in_set_empty (i % 64)) (rw (e, get_or-replicate {A = ℕ} 16 (i / 64) 0 0 (omega arith)) at h)

module _ (t : Task) (s : State) where
  pub known_none : (known : List ℕ) → known ≡ replicate 16 0 → Known t s known
  known_none known e = record {
    long = rw e (length-replicate {A = ℕ} 16 0);
    held = λ i b h. absurd (listed_none known e i b h);
  }

  module _ {known : List ℕ} (K : Known t s known) (i : ℕ) where
    later : (j : ℕ) → T (holds s (act t j).eff) → T (holds (step relaxed (act t i) s) (act t j).eff)
    later j h = sub→holds (step relaxed (act t i) s) (act t j).eff (λ v d x. step_keep relaxed (act t i) s v d (holds→sub s (act t j).eff h v d x) (λ z _. z))

    pub known_step : Known t (step relaxed (act t i) s) known
    known_step = record { long = K.long; held = λ j b h. later j (K.held j b h) }

    pub known_more : (w : ℕ) → i < 1024 → w ≡ bit_or (get_or known (i / 64) 0) (2 ^ (i % 64)) → Known t (step relaxed (act t i) s) (set known (i / 64) w)
    known_more w near e = record { long = simp length-set K.long; held = λ j b h. go j b (listed_more known K.long i w near e j b h) }
      where
        own : T (holds (step relaxed (act t i) s) (act t i).eff)
        own = sub→holds (step relaxed (act t i) s) (act t i).eff (step_eff relaxed (act t i) s)

        go : (j : ℕ) → j < 1024 → (j ≡ i) ⊎ T (listed known j) → T (holds (step relaxed (act t i) s) (act t j).eff)
        go j b (inl q) = rw q own
        go j b (inr h) = later j (K.held j b h)

-- where the effects are held already, the state behind the action is the same
pub known_held : (t : Task) (s : State) (a : Action) (known : List ℕ) → holds s a.eff ≡ true → Known t (step relaxed a s) known → Known t s known
known_held t s a known h K = subst (λ (x : State). Known t x known) (sym (step_held a s h)) K
