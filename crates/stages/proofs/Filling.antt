-- The passes in the middle: the moves so far stand in the front of the plan, up to e, and the passes of the variables left, over
-- them, are all the passes; the k searches so far and those of the variables left are all the searches.
use mathlib.Core.Path.{◌≡◌, refl, sym, ap, ◌∙◌}
use mathlib.Core.List.{List, []}
use Prim.Native.Nat.{ℕ, ◌+◌, ◌/◌, ◌%◌, ◌<◌, ◌≤◌, ◌*◌}
use native.Mathlib.Numerals.{add-one}
use native.Mathlib.Omega.{arith}
use lib.Dec.{T}
use lib.ListN.{length, get_or, take, drop}
use lib.Seq.{drop-cons, drop-length, length-take-le}
use Rattle.planning.specs.Record.{Fact, Task}
use Rattle.planning.specs.Runs.{State, variables, count, act, black}
use Rattle.planning.specs.Repair.{fill, value, order, pass_searches, fill_searches}
use Rattle.laws.proofs.Fill.{fill_grows, pass_searches_lem}
use Rattle.paths.specs.Paths.{paths_of, Memo}
use Rattle.std.specs.Prelude.{None, Some}
use Rattle.entries.specs.Entries.{Entries}
use Rattle.asking.specs.Asking.{Put}
use Rattle.passes.specs.Passes.{served}
use Rattle.stages.specs.Stages.{Present, fill_from, filled, searches_over, filled_searches}
use Rattle.stages.proofs.Below.{pass_entries, order_at}

pub record Filling (t : Task) (K s : State) (vs : List ℕ) (w : List Fact) (plan₀ plan memo : List ℕ) (e k p : ℕ) : Type 0 where
  pub within : e ≤ length plan₀
  pub long : length plan ≡ length plan₀
  pub rows : Memo t K memo
  pub place : p ≤ length vs
  pub entries : Entries t (take e plan)
  pub so_far : fill_from t K s vs [] w ≡ fill_from t K s (drop p vs) (take e plan) w
  pub sum : searches_over t K s vs [] w ≡ k + searches_over t K s (drop p vs) (take e plan) w
  pub modest : k ≤ 32769 * p

pub filling_start : (t : Task) (K s : State) (vs : List ℕ) (w : List Fact) (plan memo : List ℕ) → Memo t K memo → Filling t K s vs w plan plan memo 0 0 0
filling_start t K s vs w plan memo m = record {
  within = omega arith;
  long = refl;
  rows = m;
  place = omega arith;
  entries = λ k b. absurd (omega arith);
  so_far = refl;
  sum = omega arith;
  modest = omega arith;
}

module _ {t : Task} {K s : State} {vs : List ℕ} {w : List Fact} {plan₀ plan memo : List ℕ} {e k p : ℕ} (G : Filling t K s vs w plan₀ plan memo e k p) where
  -- one variable: the pass from its present fact f
  module _ (h : p < length vs) (v f : ℕ) (ev : v ≡ get_or vs p 0) (F : Present t s v f) (plan' : List ℕ) where
    abbrev passed : List ℕ
    passed = served t K f (take e plan) w

    filled_next : fill_from t K s (drop p vs) (take e plan) w ≡ fill_from t K s (drop (p + 1) vs) passed w
    unfolding fill
    filled_next = rw (drop-cons vs p 0 h, add-one p, ← ev, F.of, F.is) refl

    pub filling_long : Put plan plan' 0 passed None → vs ≡ order t → length plan₀ < 0 + length (filled t K s w)
    unfolding filled
    filling_long y o =
        rw (← o) (omega (arith, y, G.long, ap length (G.so_far ∙ filled_next), fill_grows (act t) (paths_of t K) (value (count t) s) (drop (p + 1) vs) passed w))

    module _ (x y : ℕ) (told : Put plan plan' 0 passed (Some x)) (searched : y ≡ pass_searches (act t) (f / 64) (take e plan) w) where
      pub filling_modest : length plan₀ ≤ 32768 → k + y ≤ 32769 * (p + 1)
      filling_modest b =
          omega (arith, G.modest, searched, pass_searches_lem (act t) (f / 64) (take e plan) w, length-take-le e plan (omega (arith, G.within, G.long)), G.within)

      sum_next : searches_over t K s (drop p vs) (take e plan) w ≡ y + searches_over t K s (drop (p + 1) vs) passed w
      unfolding fill_searches
      sum_next = rw (drop-cons vs p 0 h, add-one p, ← ev, searched, F.of, F.is) refl

      pub filling_turn : length plan₀ ≤ 32768 → (memo' : List ℕ) → length plan' ≡ length plan → Memo t K memo' → Filling t K s vs w plan₀ plan' memo' x (k + y) (p + 1)
      filling_turn b memo' l m =
          record {
            within = omega (arith, told.1, G.long);
            long = l ∙ G.long;
            rows = m;
            place = omega arith;
            entries = rw told.2 (pass_entries t K (f / 64) (f % 64) (take e plan) w G.entries);
            so_far = G.so_far ∙ filled_next ∙ rw told.2 refl;
            sum = G.sum ∙ rw (sum_next, told.2) (omega arith);
            modest = filling_modest b;
          }

  pub filling_searched : length vs ≤ p → vs ≡ order t → k ≡ filled_searches t K s w
  unfolding fill_searches filled_searches
  filling_searched h o =
      let z : p ≡ length vs = omega (arith, G.place) in
      let q : searches_over t K s vs [] w ≡ k = G.sum ∙ rw (z, drop-length vs) (omega arith) in
      sym (rw (← o) q)

  pub filling_end : length vs ≤ p → vs ≡ order t → Put plan₀ plan 0 (filled t K s w) (Some e)
  unfolding fill filled
  filling_end h o =
      let z : p ≡ length vs = omega (arith, G.place) in
      let q : fill_from t K s vs [] w ≡ take e plan = G.so_far ∙ rw (z, drop-length vs) refl in
      rw (← o, q) (omega (arith, length-take-le e plan (omega (arith, G.within, G.long))), G.within, refl)

-- the variable of a turn is black
pub order_black : (t : Task) (vs : List ℕ) → vs ≡ order t → (p : ℕ) → p < length vs → (v : ℕ) → v ≡ get_or vs p 0 → (v < variables t) × T (black t v)
order_black t vs e p h v ev = rw (ev, e) (order_at t p (omega (arith, ap length e)))
