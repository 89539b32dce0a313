-- What the facts of an action ask of a variable. A list with at most one value for each variable has v = d exactly if d is the value that
-- it asks of v.
use mathlib.Core.Path.{◌≡◌, refl}
use mathlib.Core.List.{List}
use mathlib.Core.Option as math
use Prim.Native.Nat.{ℕ, ◌<◌}
use native.Mathlib.Decide.{ℕ_discrete}
use borrow.Author.Tests.{eq-eqb, ne_eqb}
use lib.Dec.{eqb}
use Rattle.std.specs.Prelude.{Option, Some}
use Rattle.std.specs.Option.{option_eq}
use Rattle.planning.specs.Record.{Fact}
use Rattle.planning.specs.Runs.{has, look}
use Rattle.laws.proofs.Tests.{T→true, F→false}
use Rattle.laws.proofs.Facts.{Func, look_some, look_none}
use Rattle.sets.specs.Sets.{Asked}

pub asked_has : (fs : List Fact) → Func fs → (v d : ℕ) (r : Option ℕ) → d < 64 → Asked (look fs v) r → option_eq eqb r (Some d) ≡ has fs v d
asked_has fs F v d r b q = go (look fs v) refl q
  where
    go : (o : math.Option ℕ) → look fs v ≡ o → Asked o r → option_eq eqb r (Some d) ≡ has fs v d
    go math.none e q = rw (q, F→false (has fs v d) (look_none fs v d e)) refl
    go (math.some x) e q = rw q.0 (same (ℕ_discrete x d))
      where
        same : Dec (x ≡ d) → eqb x d ≡ has fs v d
        same (yes z) = rw (eq-eqb x d z, T→true (has fs v d) (look_some fs v d (rw z at e))) refl
        same (no z) = rw (ne_eqb x d z, F→false (has fs v d) (λ h. z (F v x d (look_some fs v x e) h))) refl
