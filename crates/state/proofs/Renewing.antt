-- Newest values in the step's loop. Effects set them one after the other; since variables rise strictly, none is set twice.
use mathlib.Core.Path.{◌≡◌, refl, sym, ap, ◌∙◌, fun_ext}
use mathlib.Core.List.{List, [], ◌∷◌}
use mathlib.Core.Option.{Option, none, some}
use Prim.Native.Nat.{ℕ, ◌+◌, ◌/◌, ◌%◌, ◌<◌, ◌≤◌}
use native.Mathlib.Omega.{arith}
use native.Mathlib.Decide.{ℕ_discrete, dec_lt}
use borrow.Author.Tests.{eq-eqb, ne_eqb}
use lib.ListN.{length, get_or, set, drop, replicate, length-set}
use lib.Seq.{get_or-set_same, get_or-set_other}
use Rattle.planning.specs.Record.{Fact, Action, Variable, Task}
use Rattle.planning.specs.Runs.{look, act, actions, variable}
use Rattle.planning.specs.Newest.{newer, initial_values}
use Rattle.laws.proofs.Fields.{variable_past}
use Rattle.laws.proofs.Lists.{get_d_zeros}
use Rattle.task.specs.Task.{fact_of, facts_of, task_in, Loaded, States}
use Rattle.sets.specs.Sets.{values_of}
use Rattle.sets.proofs.Listed.{Rising}
use Rattle.sets.proofs.Listing.{effects_rise}
use Rattle.sets.proofs.Slices.{facts_of_drop, facts_of_end}
use Rattle.sets.proofs.Loading.{Over}

-- each fact of a list set in turn
unfoldable pub set_all : List Fact → List ℕ → List ℕ
set_all [] ns = ns
set_all (f ∷ fs) ns = set_all fs (set ns f.var f.val)

-- the value looked up, else the old one
unfoldable found : Option ℕ → ℕ → ℕ
found none x = x
found (some d) x = d

look_below : (fs : List Fact) (low v : ℕ) → Rising low fs → v < low → look fs v ≡ none
unfolding look
look_below [] low v r h = refl
look_below (f ∷ fs) low v r h = rw (look, ne_eqb v f.var (λ e. omega (arith, r.0))) (look_below fs (f.var + 1) v r.2 (omega (arith, r.0)))

set_all_at : (fs : List Fact) (ns : List ℕ) (low : ℕ) → Rising low fs → length ns ≡ 64 → (v : ℕ) → get_or (set_all fs ns) v 0 ≡ found (look fs v) (get_or ns v 0)
unfolding set_all look found
set_all_at [] ns low r n v = refl
set_all_at (f ∷ fs) ns low r n v = set_all_at fs new (f.var + 1) r.2 (length-set ns f.var f.val ∙ n) v ∙ go (ℕ_discrete v f.var)
  where
    new : List ℕ
    new = set ns f.var f.val

    go : Dec (v ≡ f.var) → found (look fs v) (get_or new v 0) ≡ found (look (f ∷ fs) v) (get_or ns v 0)
    go (yes e) = rw (e, look, eq-eqb f.var f.var refl, look_below fs (f.var + 1) f.var r.2 (omega arith)) (get_or-set_same ns f.var f.val 0 (omega (arith, r.1)))
    go (no h) = rw (look, ne_eqb v f.var h, get_or-set_other ns f.var v f.val 0 h) refl

set_all_newer : (a : Action) (ns : List ℕ) → Rising 0 a.eff → length ns ≡ 64 → values_of (set_all a.eff ns) ≡ newer a (values_of ns)
unfolding values_of newer found
set_all_newer a ns r n = fun_ext (λ v. set_all_at a.eff ns 0 r n v ∙ go v (look a.eff v) refl)
  where
    go : (v : ℕ) (o : Option ℕ) → look a.eff v ≡ o → found (look a.eff v) (get_or ns v 0) ≡ newer a (λ w. get_or ns w 0) v
    go v none e = rw (newer, e) refl
    go v (some d) e = rw (newer, e) refl

-- the step's loop: effects from k on are left to set
pub record Renewing (facts ns₀ ns : List ℕ) (k : ℕ) : Type 0 where
  pub long₀ : length ns₀ ≡ 64
  pub long : length ns ≡ 64
  pub so_far : set_all (facts_of facts) ns₀ ≡ set_all (facts_of (drop k facts)) ns

module _ (facts : List ℕ) (k : ℕ) (ns₀ ns : List ℕ) (p : Renewing facts ns₀ ns k) where
  pub renewing_turn : k < length facts → (f : ℕ) (r : List ℕ) → f ≡ get_or facts k 0 → r ≡ set ns (f / 64) (f % 64) → Renewing facts ns₀ r (k + 1)
  unfolding set_all fact_of
  renewing_turn h f r ef er = rw er (record {
    long₀ = p.long₀;
    long = length-set ns (f / 64) (f % 64) ∙ p.long;
    so_far = p.so_far ∙ rw (facts_of_drop facts k h, ← ef) refl;
  })

  pub renewing_end : length facts ≤ k → (task : List ℕ) → Loaded task → (i : ℕ) → i < actions (task_in task) → States facts (act (task_in task) i).eff
      → values_of ns ≡ newer (act (task_in task) i) (values_of ns₀)
  unfolding set_all
  renewing_end h task L i b S =
      let e : set_all (facts_of facts) ns₀ ≡ ns = rw (facts_of_end facts k h) at p.so_far in
      ap values_of (sym e) ∙ rw S.stated (set_all_newer (act (task_in task) i) ns₀ (effects_rise task L i b) p.long₀)

-- the initial values: those of the variables below v are set, the others 0
pub record Placing (t : Task) (ns : List ℕ) (v : ℕ) : Type 0 where
  pub long : length ns ≡ 64
  pub below : (w : ℕ) → w < v → get_or ns w 0 ≡ (variable t w).init
  pub rest : (w : ℕ) → v ≤ w → get_or ns w 0 ≡ 0

pub placing_start : (t : Task) → Placing t (replicate 64 0) 0
placing_start t = record { long = refl; below = λ w h. absurd (omega arith); rest = λ w h. get_d_zeros 64 w }

module _ (t : Task) (n : ℕ) (ns : List ℕ) (v : ℕ) (o : Over t n v) (p : Placing t ns v) where
  pub placing_turn : v < n → (x : ℕ) → x ≡ (variable t v).init → Placing t (set ns v x) (v + 1)
  placing_turn h x ex = record {
    long = length-set ns v x ∙ p.long;
    below = λ w b. go w b (ℕ_discrete w v);
    rest = λ w b. get_or-set_other ns v w x 0 (λ e. omega arith) ∙ p.rest w (omega arith);
  }
    where
      go : (w : ℕ) → w < v + 1 → Dec (w ≡ v) → get_or (set ns v x) w 0 ≡ (variable t w).init
      go w b (yes e) = rw e (get_or-set_same ns v x 0 (omega (arith, p.long, o.most)) ∙ ex)
      go w b (no e) = get_or-set_other ns v w x 0 e ∙ p.below w (omega arith)

  pub placing_end : n ≤ v → values_of ns ≡ initial_values t
  unfolding values_of initial_values
  placing_end h = fun_ext (λ w. go w (dec_lt w v))
    where
      go : (w : ℕ) → Dec (w < v) → get_or ns w 0 ≡ (variable t w).init
      go w (yes b) = p.below w b
      go w (no b) = p.rest w (omega arith) ∙ sym (ap (λ (y : Variable). y.init) (variable_past t w (omega (arith, o.within, o.all))))
