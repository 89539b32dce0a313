-- The arcs of an action with one move: from the value that it needs or from every value.
use mathlib.Core.Path.{◌≡◌, refl, sym, ap, ◌∙◌}
use mathlib.Core.Bool.{Bool, true, false, not, ◌&&◌, ◌||◌}
use mathlib.Core.Option as math
use Prim.Native.Nat.{ℕ, ◌+◌, ◌*◌, ◌/◌, ◌%◌, ◌<◌, ◌≤◌}
use native.Mathlib.Nat.{add-zero}
use native.Mathlib.Omega.{arith}
use lib.Dec.{eqb}
use Rattle.std.specs.Prelude.{Some, None}
use Rattle.planning.specs.Basics.{some_below}
use Rattle.planning.specs.Record.{Task}
use Rattle.planning.specs.Runs.{State, look, act, count}
use Rattle.laws.proofs.Below.{some_true, some_false}
use Rattle.sets.specs.Sets.{Asked}
use Rattle.returns.specs.Returns.{returned}
use Rattle.lacking.specs.Lacking.{unreturned_from, arcs_by, lacks_by}

-- the fact of the same variable with the value d
module _ (f d : ℕ) (b : d < 64) where
  pub fact_var : (f / 64 * 64 + d) / 64 ≡ f / 64
  fact_var = omega arith

  pub fact_val : (f / 64 * 64 + d) % 64 ≡ d
  fact_val = omega arith

not_or : (a b r : Bool) → r ≡ (a || b) → (not a && not b) ≡ not r
not_or true b r e = rw e refl
not_or false b r e = rw e refl

-- the values below d have their returns
module _ (t : Task) (m : State) (v e : ℕ) where
  pub record Trying (d : ℕ) : Type 0 where
    pub passed : (k : ℕ) → k < d → (not (eqb (0 + k) e) && not (returned t m v (0 + k))) ≡ false

  module _ (d : ℕ) (R : Trying d) (r : Bool) (q : r ≡ (eqb d e || returned t m v d)) where
    test : (not (eqb (0 + d) e) && not (returned t m v (0 + d))) ≡ not r
    test = let z : 0 + d ≡ d = omega arith in rw z (not_or (eqb d e) (returned t m v d) r q)

    pub trying_hit : (n : ℕ) → d < n → r ≡ false → true ≡ unreturned_from t m v e 0 n
    unfolding unreturned_from
    trying_hit n h z = sym (some_true n (λ k. not (eqb (0 + k) e) && not (returned t m v (0 + k))) d h (test ∙ ap not z))

  pub trying_end : (d n : ℕ) → Trying d → n ≤ d → false ≡ unreturned_from t m v e 0 n
  unfolding unreturned_from
  trying_end d n R h = sym (some_false n (λ k. not (eqb (0 + k) e) && not (returned t m v (0 + k))) (λ k b. R.passed k (omega arith)))

-- which values are tried
module _ (t : Task) (m : State) (i v e : ℕ) where
  pub asked_one : (d : ℕ) → Asked (look (act t i).pre v) (Some d) → (r : Bool) → r ≡ (eqb d e || returned t m v d) → not r ≡ lacks_by t m i v e
  unfolding lacks_by unreturned_from some_below
  asked_one d q r z = go (look (act t i).pre v) q
    where
      go : (o : math.Option ℕ) → Asked o (Some d) → not r ≡ arcs_by o t m v e
      go math.none q = let y : ◌≡◌ {A = ℕ} 0 1 = cc in absurd (omega arith)
      go (math.some x) q = let y : x ≡ d = cc in rw (y, add-zero) (sym (not_or (eqb d e) (returned t m v d) r z))

  pub asked_any : Asked (look (act t i).pre v) None → unreturned_from t m v e 0 (count t v) ≡ lacks_by t m i v e
  unfolding lacks_by
  asked_any q = go (look (act t i).pre v) q
    where
      go : (o : math.Option ℕ) → Asked o None → unreturned_from t m v e 0 (count t v) ≡ arcs_by o t m v e
      go math.none q = refl
      go (math.some x) q = let y : ◌≡◌ {A = ℕ} 0 1 = cc in absurd (omega arith)
