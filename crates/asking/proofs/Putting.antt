-- Lists written into a list, one behind the other; the value that is asked.
use mathlib.Core.Path.{◌≡◌, refl, sym, subst}
use mathlib.Core.List.{List, [], append-nil}
use mathlib.Core.Option as math
use Prim.Native.Nat.{ℕ, ◌<◌, ◌≤◌}
use native.Mathlib.Omega.{arith}
use lib.ListN.{length, take}
use mir.Val.{bool_byte}
use Rattle.std.specs.Prelude.{Option, None, Some, unwrap_or, is_some}
use Rattle.planning.specs.Record.{Fact, Task}
use Rattle.planning.specs.Runs.{look, count, act}
use Rattle.planning.specs.Repair.{toward, after, asked_for}
use Rattle.laws.proofs.Facts.{look_some}
use Rattle.laws.proofs.Formed.{Formed, sorted_has}
use Rattle.task.specs.Goals.{option_of}
use Rattle.sets.specs.Sets.{Asked}
use Rattle.asking.specs.Asking.{Fitting, Fits, Put}

pub asked_is : (o : math.Option ℕ) (d : Option ℕ) → Asked o d → option_of d ≡ o
asked_is math.none d e = rw e refl
asked_is (math.some x) d e = rw e.0 refl

pub asked_as : (t : Task) (v k i : ℕ) (d : Option ℕ) → k ≡ i → Asked (look (act t k).pre v) d → Asked (look (act t i).pre v) d
asked_as t v k i d e q = subst (λ (x : ℕ). Asked (look (act t x).pre v) d) e q

-- the value behind it
pub after_is : (c : ℕ) (d : Option ℕ) → unwrap_or d c ≡ after c (option_of d)
unfolding after
after_is c None = refl
after_is c (Some d) = refl

-- a value that is asked is one of its variable
pub pre_fitting : (t : Task) → Formed t → (i : ℕ) → Fitting t (act t i).pre
pre_fitting t F i v d e = (sorted_has _ (count t) 0 (act t i).pre (F.pre_sorted i) v d (look_some (act t i).pre v d e)).val_below

pub asked_fits : (t : Task) (fs : List Fact) → Fitting t fs → (v : ℕ) (d : Option ℕ) → Asked (look fs v) d → Fits (count t v) d
asked_fits t fs f v d q = go (look fs v) refl q
  where
    go : (o : math.Option ℕ) → look fs v ≡ o → Asked o d → Fits (count t v) d
    go math.none e q = rw q tt
    go (math.some x) e q = rw q.0 (f v x e)

pub after_fits : (t : Task) (fs : List Fact) → Fitting t fs → (v c : ℕ) → c < count t v → after c (look fs v) < count t v
unfolding after
after_fits t fs f v c h = go (look fs v) refl
  where
    go : (o : math.Option ℕ) → look fs v ≡ o → after c o < count t v
    go math.none e = h
    go (math.some x) e = f v x e

-- no path, as no value is asked or c itself
pub lead_none : (path : ℕ → ℕ → List ℕ) (c : ℕ) (l : List ℕ) (at : ℕ) → at ≤ length l → Put l l at (toward path c math.none) (Some at)
unfolding toward
lead_none path c l at b = (omega arith, b, sym (append-nil (take at l)))

pub lead_same : (path : ℕ → ℕ → List ℕ) (c d : ℕ) → path c d ≡ [] → (l : List ℕ) (at : ℕ) → at ≤ length l → Put l l at (toward path c (math.some d)) (Some at)
unfolding toward
lead_same path c d e l at b = rw e (omega arith, b, sym (append-nil (take at l)))

-- a path
pub lead_some : (path : ℕ → ℕ → List ℕ) (c d : ℕ) (l l' : List ℕ) (at : ℕ) (r : Option ℕ) → Put l l' at (path c d) r → Put l l' at (toward path c (math.some d)) r
unfolding toward
lead_some path c d l l' at r p = p

-- a path is asked for
pub asked_for_is : (d : Option ℕ) → bool_byte (is_some d) ≡ asked_for (option_of d)
unfolding asked_for
asked_for_is None = refl
asked_for_is (Some d) = refl
