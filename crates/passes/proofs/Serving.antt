-- A pass over a list where no entry needs the variable leaves it as it is; else the list is moved to the end first.
use mathlib.Core.Path.{◌≡◌, refl, sym, ap, ◌∙◌, subst}
use mathlib.Core.Bool.{Bool, true, false}
use mathlib.Core.List.{List, [], ◌∷◌, ◌++◌}
use mathlib.Core.Option as math
use Prim.Native.Nat.{ℕ, ◌+◌, ◌<◌, ◌≤◌}
use native.Mathlib.Numerals.{add-one}
use native.Mathlib.Omega.{arith}
use lib.ListN.{length, get_or, take, drop, length-append, drop_of_length-le}
use lib.Seq.{drop-cons, length-take-le}
use Rattle.planning.specs.Record.{Fact, Task}
use Rattle.planning.specs.Runs.{State, look, act}
use Rattle.planning.specs.Repair.{toward, after, pass, asked_for, pass_searches}
use Rattle.sets.specs.Sets.{Asked}
use Rattle.paths.specs.Paths.{paths_of}
use Rattle.std.specs.Prelude.{Option, None, Some, is_some}
use Rattle.asking.specs.Asking.{Put}
use Rattle.task.specs.Goals.{option_of}
use Rattle.passes.specs.Passes.{pass_of, unasked}
use Rattle.asking.proofs.Putting.{asked_is}

-- one entry more, and the end
module _ (t : Task) (v : ℕ) (list : List ℕ) (k : ℕ) where
  module _ (h : k < length list) (i : ℕ) (ei : i ≡ get_or list k 0) (d : Option ℕ) (q : Asked (look (act t i).pre v) d) where
    here : drop k list ≡ get_or list k 0 ∷ drop (k + 1) list
    here = rw (add-one k) (drop-cons list k 0 h)

    asks : unasked t v (drop k list) ≡ elim (look (act t i).pre v) [ math.none ↦ unasked t v (drop (k + 1) list) | math.some x ↦ false ]
    unfolding unasked
    asks =
        ap (unasked t v) here
        ∙ ap (λ (x : ℕ). elim (look (act t x).pre v) as (λ _. Bool) [ math.none ↦ unasked t v (drop (k + 1) list) | math.some y ↦ false ]) (sym ei)

    pub idle_no : is_some d ≡ true → unasked t v (drop k list) ≡ false
    idle_no s = asks ∙ go (look (act t i).pre v) q
      where
        go : (o : math.Option ℕ) → Asked o d → ◌≡◌ {A = Bool} (elim o [ math.none ↦ unasked t v (drop (k + 1) list) | math.some x ↦ false ]) false
        go math.none e = let z = rw e at s in absurd (cc)
        go (math.some x) e = refl

    pub idle_yes : is_some d ≡ false → unasked t v (drop k list) ≡ unasked t v (drop (k + 1) list)
    idle_yes s = asks ∙ go (look (act t i).pre v) q
      where
        go : (o : math.Option ℕ) → Asked o d → ◌≡◌ {A = Bool} (elim o [ math.none ↦ unasked t v (drop (k + 1) list) | math.some x ↦ false ]) (unasked t v (drop (k + 1) list))
        go math.none e = refl
        go (math.some x) e = let z = rw e.0 at s in absurd (cc)

  pub idle_end : length list ≤ k → unasked t v (drop k list) ≡ true
  unfolding unasked
  idle_end h = rw (drop_of_length-le list h) refl

-- the pass leaves the list as it is
pass_idle : (t : Task) (K : State) (v c : ℕ) (l : List ℕ) (w : List Fact) → unasked t v l ≡ true → pass_of t K v c l w ≡ l ++ toward (paths_of t K v) c (look w v)
unfolding pass unasked toward after
pass_idle t K v c [] w e = refl
pass_idle t K v c (i ∷ l) w e = go (look (act t i).pre v) e (pass_idle t K v c l w)
  where
    go : (o : math.Option ℕ) → ◌≡◌ {A = Bool} (elim o [ math.none ↦ unasked t v l | math.some x ↦ false ]) true → (unasked t v l ≡ true → pass_of t K v c l w ≡ l ++ toward (paths_of t K v) c (look w v))
        → toward (paths_of t K v) c o ++ (i ∷ pass_of t K v (after c o) l w) ≡ i ∷ (l ++ toward (paths_of t K v) c (look w v))
    go math.none e k = ap (λ (x : List ℕ). i ∷ x) (k e)
    go (math.some x) e k = absurd (cc)

searches_idle : (t : Task) (v : ℕ) (l : List ℕ) (w : List Fact) → unasked t v l ≡ true → pass_searches (act t) v l w ≡ asked_for (look w v)
unfolding pass_searches unasked asked_for
searches_idle t v [] w e = refl
searches_idle t v (i ∷ l) w e = go (look (act t i).pre v) e (searches_idle t v l w)
  where
    go : (o : math.Option ℕ) → ◌≡◌ {A = Bool} (elim o [ math.none ↦ unasked t v l | math.some x ↦ false ]) true → (unasked t v l ≡ true → pass_searches (act t) v l w ≡ asked_for (look w v))
        → asked_for o + pass_searches (act t) v l w ≡ asked_for (look w v)
    go math.none e k = omega (arith, k e)
    go (math.some x) e k = absurd (cc)

pub served_counts : (t : Task) (v : ℕ) (l : List ℕ) (w : List Fact) → unasked t v l ≡ true → (d : Option ℕ) → Asked (look w v) d → asked_for (option_of d) ≡ pass_searches (act t) v l w
served_counts t v l w u d q = rw (asked_is (look w v) d q) (sym (searches_idle t v l w u))

-- the path behind the list is the pass
module _ (t : Task) (K : State) (v c : ℕ) (plan : List ℕ) (e : ℕ) (w : List Fact) (b : e ≤ length plan) where
  pub served_behind : unasked t v (take e plan) ≡ true → (d : Option ℕ) → Asked (look w v) d → (plan' : List ℕ) (r : Option ℕ)
      → Put plan plan' e (toward (paths_of t K v) c (option_of d)) r → Put plan plan' 0 (pass_of t K v c (take e plan) w) r
  served_behind u d q plan' r p = go r p
    where
      path : List ℕ
      path = toward (paths_of t K v) c (option_of d)

      whole : pass_of t K v c (take e plan) w ≡ take e plan ++ path
      whole = pass_idle t K v c (take e plan) w u ∙ rw (asked_is (look w v) d q) refl

      long : length (pass_of t K v c (take e plan) w) ≡ e + length path
      long = ap length whole ∙ length-append (take e plan) path ∙ ap (λ (x : ℕ). x + length path) (length-take-le e plan b)

      go : (r : Option ℕ) → Put plan plan' e path r → Put plan plan' 0 (pass_of t K v c (take e plan) w) r
      go (Some y) p = (omega (arith, long, p.0), p.1, p.2 ∙ sym whole)
      go None p = omega (arith, long, p)

-- the pass over the same list, moved to place j of another list, is the pass
pub served_moved : (t : Task) (K : State) (v c : ℕ) (plan : List ℕ) (e : ℕ) (w : List Fact) (moved : List ℕ) (j : ℕ) → length moved ≡ length plan → drop j moved ≡ take e plan
    → (plan' : List ℕ) (r : Option ℕ) → Put moved plan' 0 (pass_of t K v c (drop j moved) w) r → Put plan plan' 0 (pass_of t K v c (take e plan) w) r
served_moved t K v c plan e w moved j n q plan' r p = go r (subst (λ (l : List ℕ). Put moved plan' 0 (pass_of t K v c l w) r) q p)
  where
    go : (r : Option ℕ) → Put moved plan' 0 (pass_of t K v c (take e plan) w) r → Put plan plan' 0 (pass_of t K v c (take e plan) w) r
    go (Some y) p = (p.0, omega (arith, p.1), p.2)
    go None p = omega (arith, p)
