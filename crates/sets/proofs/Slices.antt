-- Loops over the facts of a slice, at place k: what is left to look at are the facts from k on. Effects are put into the sets one after the
-- other, and the sets at the end are those of the relaxed step.
use mathlib.Core.Path.{◌≡◌, refl, sym, ap, ◌∙◌}
use mathlib.Core.Bool.{true, false}
use mathlib.Core.List.{List, [], ◌∷◌}
use mathlib.Core.Option.{none}
use Prim.Native.Nat.{ℕ, ◌+◌, ◌/◌, ◌%◌, ◌^◌, ◌<◌, ◌≤◌}
use native.Mathlib.Numerals.{add-one}
use native.Mathlib.Omega.{arith}
use borrow.Author.Tests.{eq-eqb, ne_eqb}
use lib.Bits.{bit_or}
use lib.ListN.{length, get_or, set, drop, length-set, drop_of_length-le}
use lib.Seq.{drop-cons}
use Rattle.std.specs.Prelude.{Some}
use Rattle.planning.specs.Runs.{State, look, holds, step, relaxed, act, actions}
use Rattle.task.specs.Task.{fact_of, facts_of, task_in, Loaded, States}
use Rattle.sets.specs.Sets.{sets_of, Asked}
use Rattle.sets.proofs.Effects.{put, put_all, put_all_step}
use Rattle.sets.proofs.Listing.{effects_rise}

module _ (l : List ℕ) (k : ℕ) (h : k < length l) where
  pub facts_of_drop : facts_of (drop k l) ≡ fact_of (get_or l k 0) ∷ facts_of (drop (k + 1) l)
  unfolding facts_of
  facts_of_drop = rw (add-one, drop-cons l k 0 h) refl

  pub fails_here : (s : State) (f : ℕ) → f ≡ get_or l k 0 → s (f / 64) (f % 64) ≡ false → holds s (facts_of (drop k l)) ≡ false
  unfolding holds fact_of
  fails_here s f ef e = rw (facts_of_drop, ← ef, e) refl

  pub passes_here : (s : State) (f : ℕ) → f ≡ get_or l k 0 → s (f / 64) (f % 64) ≡ true → holds s (facts_of (drop k l)) ≡ holds s (facts_of (drop (k + 1) l))
  unfolding holds fact_of
  passes_here s f ef e = rw (facts_of_drop, ← ef, e) refl

  pub asked_here : (v f : ℕ) → f ≡ get_or l k 0 → f / 64 ≡ v → Asked (look (facts_of (drop k l)) v) (Some (f % 64))
  unfolding look fact_of
  asked_here v f ef e = rw (facts_of_drop, ← ef, eq-eqb v (f / 64) (sym e), look) (ap (λ (w : ℕ). Some (w % 64)) ef, omega arith)

  pub asked_later : (v f : ℕ) → f ≡ get_or l k 0 → (f / 64 ≡ v → ⊥) → look (facts_of (drop k l)) v ≡ look (facts_of (drop (k + 1) l)) v
  unfolding look fact_of
  asked_later v f ef e = rw (facts_of_drop, ← ef, ne_eqb v (f / 64) (λ q. e (sym q)), look) refl

-- behind the last fact
module _ (l : List ℕ) (k : ℕ) (h : length l ≤ k) where
  pub facts_of_end : facts_of (drop k l) ≡ []
  unfolding facts_of
  facts_of_end = rw (drop_of_length-le l h) refl

  pub passes_end : (s : State) → holds s (facts_of (drop k l)) ≡ true
  unfolding holds
  passes_end s = rw facts_of_end refl

  pub asked_end : (v : ℕ) → look (facts_of (drop k l)) v ≡ none
  unfolding look
  asked_end v = rw facts_of_end refl

-- effects from k on are left to put into the sets ms
pub record Putting (facts ms₀ ms : List ℕ) (k : ℕ) : Type 0 where
  pub long₀ : length ms₀ ≡ 64
  pub long : length ms ≡ 64
  pub so_far : put_all (facts_of facts) ms₀ ≡ put_all (facts_of (drop k facts)) ms

module _ (facts : List ℕ) (k : ℕ) (ms₀ ms : List ℕ) (p : Putting facts ms₀ ms k) where
  pub putting_turn : k < length facts → (f v x y : ℕ) → f ≡ get_or facts k 0 → v ≡ f / 64 → x ≡ f % 64 → y ≡ 2 ^ x → Putting facts ms₀ (set ms v (bit_or (get_or ms v 0) y)) (k + 1)
  unfolding put_all put fact_of
  putting_turn h f v x y ef ev ex ey = record {
    long₀ = p.long₀;
    long = length-set ms v (bit_or (get_or ms v 0) y) ∙ p.long;
    so_far = p.so_far ∙ rw (facts_of_drop facts k h, ey, ex, ev, ef) refl;
  }

  pub putting_end : length facts ≤ k → (task : List ℕ) → Loaded task → (i : ℕ) → i < actions (task_in task) → States facts (act (task_in task) i).eff
      → sets_of ms ≡ step relaxed (act (task_in task) i) (sets_of ms₀)
  unfolding put_all
  putting_end h task L i b S =
      let e = rw (facts_of_end facts k h) at p.so_far in
      ap sets_of (sym e) ∙ rw S.stated (put_all_step (act (task_in task) i) ms₀ (effects_rise task L i b) p.long₀)
