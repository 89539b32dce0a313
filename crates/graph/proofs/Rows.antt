-- The black causal graph, filled action by action: the rows at action i hold the arcs of the actions below i.
use mathlib.Core.Path.{◌≡◌, refl, sym, ap, ◌∙◌, fun_ext, subst}
use mathlib.Core.Logic.{inl, inr}
use mathlib.Core.Bool.{Bool, true, false, not, ◌&&◌, ◌||◌, or-false, or_assoc, and-false}
use mathlib.Core.List.{List, ◌∷◌}
use Prim.Native.Nat.{ℕ, ◌+◌, ◌/◌, ◌%◌, ◌^◌, ◌<◌, ◌≤◌}
use native.Mathlib.Numerals.{add-one}
use native.Mathlib.Omega.{arith}
use native.Mathlib.Decide.{ℕ_discrete}
use borrow.Author.Tests.{eq-eqb, ne_eqb}
use lib.Bits.{bit_or, bit_xor}
use lib.Dec.{T, T_not, eqb}
use lib.ListN.{length, get_or, set, drop, replicate, length-set}
use lib.Seq.{get_or-set_same, get_or-set_other}
use Rattle.planning.specs.Basics.{some_below}
use Rattle.planning.specs.Record.{Fact, Action, Task}
use Rattle.planning.specs.Runs.{has, touches, actions, act, black}
use Rattle.planning.specs.Painting.{without, reduced_effects, causal_arc, black_arc}
use Rattle.laws.proofs.Tests.{T→true, bool_same, or_l, or_r, or_cases, and_l, and_r, and_i, T_cases}
use Rattle.laws.proofs.Facts.{has→touches, touches→has}
use Rattle.laws.proofs.Arcs.{reduced_elim, unchanged}
use Rattle.laws.proofs.Lists.{get_d_zeros}
use Rattle.task.specs.Task.{fact_of, facts_of}
use Rattle.sets.specs.Sets.{in_set, sets_of, mode_of}
use Rattle.sets.proofs.Members.{in_set_single, in_set_empty, in_set_or}
use Rattle.sets.proofs.Slices.{facts_of_drop, facts_of_end}
use Rattle.graph.specs.Graph.{Rows, with_action}
use Rattle.graph.proofs.Bits.{in_set_without}

-- what is touched by the facts from place k on
module _ (facts : List ℕ) (k : ℕ) where
  touches_more : k < length facts → (v : ℕ) → touches (facts_of (drop k facts)) v ≡ (eqb v (get_or facts k 0 / 64) || touches (facts_of (drop (k + 1) facts)) v)
  unfolding touches fact_of
  touches_more h v = rw (facts_of_drop facts k h) refl

  touches_none : length facts ≤ k → (v : ℕ) → touches (facts_of (drop k facts)) v ≡ false
  unfolding touches
  touches_none h v = rw (facts_of_end facts k h) refl

-- one fact in front of a list without those of pre
touches_without : (pre : List Fact) (f : Fact) (fs : List Fact) (v : ℕ)
    → touches (without pre (f ∷ fs)) v ≡ ((not (has pre f.var f.val) && eqb v f.var) || touches (without pre fs) v)
unfolding without touches
touches_without pre f fs v = go (has pre f.var f.val)
  where
    go : (x : Bool) → touches (elim x [ true ↦ without pre fs | false ↦ f ∷ without pre fs ]) v ≡ ((not x && eqb v f.var) || touches (without pre fs) v)
    go true = refl
    go false = refl

-- the black variables of facts that are not among those of pre, collected in a set: the facts from k on are left
pub record Changing (facts : List ℕ) (pre : List Fact) (paint m k : ℕ) : Type 0 where
  pub so_far : (v : ℕ) → (in_set m v || (in_set paint v && touches (without pre (facts_of (drop k facts))) v)) ≡ (in_set paint v && touches (without pre (facts_of facts)) v)

pub changing_start : (facts : List ℕ) (pre : List Fact) (paint : ℕ) → Changing facts pre paint 0 0
changing_start facts pre paint = record { so_far = λ v. rw (in_set_empty v) refl }

module _ (facts : List ℕ) (pre : List Fact) (paint m k : ℕ) (p : Changing facts pre paint m k) where
  -- the set w gains the variable of fact f exactly where that is black and not needed
  changing_next : k < length facts → (f w : ℕ) → f ≡ get_or facts k 0
      → ((v : ℕ) (t : Bool) → (in_set w v || (in_set paint v && t)) ≡ (in_set m v || (in_set paint v && ((not (has pre (f / 64) (f % 64)) && eqb v (f / 64)) || t))))
      → Changing facts pre paint w (k + 1)
  unfolding fact_of
  changing_next h f w e ew = record {
    so_far = λ v.
        ew v (touches (without pre (facts_of (drop (k + 1) facts))) v)
        ∙ (rw (facts_of_drop facts k h, touches_without pre (fact_of (get_or facts k 0)) (facts_of (drop (k + 1) facts)) v, ← e) at (p.so_far v));
  }

  module _ (h : k < length facts) (f : ℕ) (e : f ≡ get_or facts k 0) (r : Bool) (c : r ≡ (in_set paint (f / 64) && not (has pre (f / 64) (f % 64)))) where
    pub changing_turn : r ≡ true → (w x : ℕ) → w ≡ 2 ^ (f / 64) → x ≡ bit_or m w → Changing facts pre paint x (k + 1)
    changing_turn q w x ew ex = changing_next h f x e (λ v t. rw (ex, in_set_or m w v, ew, in_set_single (f / 64) v) (go v t (ℕ_discrete v (f / 64))))
      where
        n : Bool
        n = not (has pre (f / 64) (f % 64))

        yes_both : T (in_set paint (f / 64) && n)
        yes_both = rw (← c, q) tt

        go : (v : ℕ) (t : Bool) → Dec (v ≡ f / 64) → ((in_set m v || eqb v (f / 64)) || (in_set paint v && t)) ≡ (in_set m v || (in_set paint v && ((n && eqb v (f / 64)) || t)))
        go v t (yes z) =
            rw (z, T→true (in_set paint (f / 64)) (and_l (in_set paint (f / 64)) n yes_both), T→true n (and_r (in_set paint (f / 64)) n yes_both), eq-eqb (f / 64) (f / 64) refl)
            (or_assoc (in_set m (f / 64)) true t)
        go v t (no z) = rw (ne_eqb v (f / 64) z, and-false n, or-false (in_set m v)) refl

    pub changing_skip : r ≡ false → (x : ℕ) → x ≡ m → Changing facts pre paint x (k + 1)
    changing_skip q x ex = changing_next h f x e (λ v t. rw ex (ap (λ (x : Bool). in_set m v || x) (go v t (ℕ_discrete v (f / 64)))))
      where
        n : Bool
        n = not (has pre (f / 64) (f % 64))

        -- where the variable is black, the fact is needed
        drop : (x y z t : Bool) → (x && y) ≡ false → (x && t) ≡ (x && ((y && z) || t))
        drop true true z t e = let w : ◌≡◌ {A = ℕ} 0 1 = cc in absurd (omega arith)
        drop true false z t e = refl
        drop false y z t e = refl

        go : (v : ℕ) (t : Bool) → Dec (v ≡ f / 64) → (in_set paint v && t) ≡ (in_set paint v && ((n && eqb v (f / 64)) || t))
        go v t (yes z) = rw z (drop (in_set paint (f / 64)) n (eqb (f / 64) (f / 64)) t (sym c ∙ q))
        go v t (no z) = rw (ne_eqb v (f / 64) z, and-false n) refl

-- at the end, where the facts are the effects of an action
pub changing_end : (facts : List ℕ) (a : Action) (paint m k : ℕ) → Changing facts a.pre paint m k → length facts ≤ k → facts_of facts ≡ a.eff
    → (v : ℕ) → in_set m v ≡ (in_set paint v && touches (reduced_effects a) v)
unfolding without touches reduced_effects
changing_end facts a paint m k p h e v = sym (or-false (in_set m v)) ∙ (rw (facts_of_end facts k h, and-false (in_set paint v), e) at (p.so_far v))

-- one row
pub joined_row : (row changed u paint w : ℕ) → w ≡ 2 ^ u → in_set paint u ≡ true
    → mode_of (bit_or row (bit_xor (bit_or changed w) w)) ≡ (λ v. in_set row v || ((in_set paint u && not (eqb u v)) && in_set changed v))
unfolding mode_of
joined_row row changed u paint w h e = fun_ext (λ v.
    rw (h, e, in_set_or row (bit_xor (bit_or changed (2 ^ u)) (2 ^ u)) v, in_set_without changed u v, eqb_swap u v) refl)
  where
    eqb_swap : (u v : ℕ) → eqb v u ≡ eqb u v
    eqb_swap u v = go (ℕ_discrete u v)
      where
        go : Dec (u ≡ v) → eqb v u ≡ eqb u v
        go (yes q) = rw q refl
        go (no q) = ne_eqb v u (λ z. q (sym z)) ∙ sym (ne_eqb u v q)

pub kept_row : (row changed u paint : ℕ) → in_set paint u ≡ false → mode_of row ≡ (λ v. in_set row v || ((in_set paint u && not (eqb u v)) && in_set changed v))
unfolding mode_of
kept_row row changed u paint e = fun_ext (λ v. rw e (sym (or-false (in_set row v))))

-- arcs of one action
abbrev arcs : ℕ → ℕ → ℕ → ℕ → Bool
arcs changed paint u v = (in_set paint u && not (eqb u v)) && in_set changed v

-- the arcs from the facts from k on are left
pub record Adding (facts : List ℕ) (changed paint : ℕ) (rows₀ rows : List ℕ) (k : ℕ) : Type 0 where
  pub long : length rows ≡ 64
  pub so_far : (u v : ℕ) → (sets_of rows u v || (touches (facts_of (drop k facts)) u && arcs changed paint u v)) ≡ (sets_of rows₀ u v || (touches (facts_of facts) u && arcs changed paint u v))

own_turn : (r x t : Bool) → ((r || x) || (t && x)) ≡ (r || x)
own_turn true x t = refl
own_turn false true t = refl
own_turn false false t = and-false t

module _ (facts : List ℕ) (changed paint : ℕ) (rows₀ : List ℕ) where
  module _ (rows : List ℕ) (k : ℕ) (p : Adding facts changed paint rows₀ rows k) where
    pub adding_turn : k < length facts → (f u w : ℕ) → f ≡ get_or facts k 0 → f < 4096 → u ≡ f / 64 → mode_of w ≡ (λ v. in_set (get_or rows u 0) v || arcs changed paint u v)
        → Adding facts changed paint rows₀ (set rows u w) (k + 1)
    unfolding mode_of sets_of
    adding_turn h f u w e l eu ew = record {
      long = length-set rows u w ∙ p.long;
      so_far = λ x v. go x v (ℕ_discrete x u) ∙ (rw (touches_more facts k h x, ← e, ← eu) at (p.so_far x v));
    }
      where
        rest : ℕ → Bool
        rest x = touches (facts_of (drop (k + 1) facts)) x

        go : (x v : ℕ) → Dec (x ≡ u) → (in_set (get_or (set rows u w) x 0) v || (rest x && arcs changed paint x v)) ≡ (in_set (get_or rows x 0) v || ((eqb x u || rest x) && arcs changed paint x v))
        go x v (yes q) =
            let n : u < length rows = omega (arith, p.long) in
            let z : in_set w v ≡ (in_set (get_or rows u 0) v || arcs changed paint u v) = ap (λ (g : ℕ → Bool). g v) ew in
            rw (q, get_or-set_same rows u w 0 n, z, eq-eqb u u refl) (own_turn (in_set (get_or rows u 0) v) (arcs changed paint u v) (rest u))
        go x v (no q) = rw (get_or-set_other rows u x w 0 q, ne_eqb x u q) refl

    pub adding_end : length facts ≤ k → sets_of rows ≡ (λ u v. sets_of rows₀ u v || (touches (facts_of facts) u && arcs changed paint u v))
    adding_end h = fun_ext (λ u. fun_ext (λ v. sym (or-false (sets_of rows u v)) ∙ (rw (touches_none facts k h u) at (p.so_far u v))))

-- of what an action mentions, effects that it needs add nothing
touches_reduced : (a : Action) (u : ℕ) → (touches a.pre u || touches a.eff u) ≡ (touches a.pre u || touches (reduced_effects a) u)
touches_reduced a u = bool_same (touches a.pre u || touches a.eff u) (touches a.pre u || touches (reduced_effects a) u) there back
  where
    there : T (touches a.pre u || touches a.eff u) → T (touches a.pre u || touches (reduced_effects a) u)
    there h = elim (or_cases (touches a.pre u) (touches a.eff u) h) [
      | inl p ↦ or_l (touches a.pre u) (touches (reduced_effects a) u) p
      | inr q ↦ elim (T_cases (touches (reduced_effects a) u)) [
        | inl r ↦ or_r (touches a.pre u) (touches (reduced_effects a) u) r
        | inr n ↦
            let e = touches→has a.eff u q in
            or_l (touches a.pre u) (touches (reduced_effects a) u) (has→touches a.pre u e.0 (unchanged a u e.0 (T_not (touches (reduced_effects a) u) n) e.1))
      ]
    ]

    back : T (touches a.pre u || touches (reduced_effects a) u) → T (touches a.pre u || touches a.eff u)
    back h = elim (or_cases (touches a.pre u) (touches (reduced_effects a) u) h) [
      | inl p ↦ or_l (touches a.pre u) (touches a.eff u) p
      | inr r ↦
          let e = touches→has (reduced_effects a) u r in
          or_r (touches a.pre u) (touches a.eff u) (has→touches a.eff u e.0 (reduced_elim a u e.0 e.1).0)
    ]

-- the arcs that an action gives
module _ (a : Action) (paint : ℕ) (s : ℕ → ℕ → Bool) (w : ℕ) (change : (v : ℕ) → in_set w v ≡ (in_set paint v && touches (reduced_effects a) v)) where
  regroup : (r t : Bool) (mu ne tv mv : Bool) → r ≡ t → (r && ((mu && ne) && (mv && tv))) ≡ ((mu && mv) && (ne && (tv && t)))
  regroup r t mu ne tv mv e = bool_same (r && ((mu && ne) && (mv && tv))) ((mu && mv) && (ne && (tv && t)))
      (λ h. let z : T t = subst T e (search and_l) in search (and_i, and_l, and_r))
      (λ h. let z : T r = subst T (sym e) (search and_r) in search (and_i, and_l, and_r))

  -- those from the preconditions and those from the effects
  both : (s p e x : Bool) → ((s || (p && x)) || (e && x)) ≡ (s || ((p || e) && x))
  both true p e x = refl
  both false true e true = refl
  both false true true false = refl
  both false true false false = refl
  both false false e x = refl

  all_arcs : (λ u v. s u v || ((touches a.pre u || touches a.eff u) && arcs w paint u v)) ≡ with_action (mode_of paint) a s
  unfolding with_action mode_of
  all_arcs = fun_ext (λ u. fun_ext (λ v.
      rw (change v)
      (ap (λ (x : Bool). s u v || x)
      (regroup (touches a.pre u || touches a.eff u) (touches a.pre u || touches (reduced_effects a) u) (in_set paint u) (not (eqb u v)) (touches (reduced_effects a) v) (in_set paint v) (touches_reduced a u)))))

  pub action_arcs : (pre eff rows rows' : List ℕ) → facts_of pre ≡ a.pre → facts_of eff ≡ a.eff
      → sets_of rows ≡ (λ u v. s u v || (touches (facts_of pre) u && arcs w paint u v)) → sets_of rows' ≡ (λ u v. sets_of rows u v || (touches (facts_of eff) u && arcs w paint u v))
      → sets_of rows' ≡ with_action (mode_of paint) a s
  action_arcs pre eff rows rows' ep ee er er' =
      er' ∙ rw (er, ep, ee) (fun_ext (λ u. fun_ext (λ v. both (s u v) (touches a.pre u) (touches a.eff u) (arcs w paint u v))) ∙ all_arcs)

  -- nothing black is changed
  pub action_none : w ≡ 0 → s ≡ with_action (mode_of paint) a s
  action_none e = fun_ext (λ u. fun_ext (λ v. none_at u v)) ∙ all_arcs
    where
      none_at : (u v : ℕ) → s u v ≡ (s u v || ((touches a.pre u || touches a.eff u) && arcs w paint u v))
      none_at u v = rw (e, in_set_empty v, and-false (in_set paint u && not (eqb u v)), and-false (touches a.pre u || touches a.eff u)) (sym (or-false (s u v)))

-- action i gives the arc from u to v; the whole graph: arcs of the actions below i
abbrev gives_arc : Task → ℕ → ℕ → ℕ → Bool
gives_arc t u v i = touches (reduced_effects (act t i)) v && (touches (act t i).pre u || touches (reduced_effects (act t i)) u)

unfoldable pub arcs_below : Task → ℕ → ℕ → ℕ → Bool
arcs_below t n u v = (black t u && black t v) && (not (eqb u v) && some_below n (gives_arc t u v))

one_more : (x y s p : Bool) → ((x && (y && s)) || (x && (y && p))) ≡ (x && (y && (s || p)))
one_more true true s p = refl
one_more true false s p = refl
one_more false y s p = refl

arcs_more : (t : Task) (i : ℕ) → with_action (black t) (act t i) (arcs_below t i) ≡ arcs_below t (i + 1)
unfolding with_action arcs_below some_below
arcs_more t i = fun_ext (λ u. fun_ext (λ v. rw add-one
    (one_more (black t u && black t v) (not (eqb u v)) (some_below i (gives_arc t u v)) (gives_arc t u v i))))

pub record Drawing (t : Task) (n : ℕ) (rows : List ℕ) (i : ℕ) : Type 0 where
  pub within : i ≤ n
  pub long : length rows ≡ 64
  pub drawn : sets_of rows ≡ arcs_below t i

pub drawing_start : (t : Task) (n : ℕ) → Drawing t n (replicate 64 0) 0
unfolding arcs_below some_below sets_of
drawing_start t n = record {
  within = omega arith;
  long = refl;
  drawn = fun_ext (λ u. fun_ext (λ v. rw (get_d_zeros 64 u, in_set_empty v, and-false (not (eqb u v))) (sym (and-false (black t u && black t v)))));
}

module _ (t : Task) (n : ℕ) (rows : List ℕ) (i : ℕ) (D : Drawing t n rows i) where
  pub drawing_turn : i < n → (paint : ℕ) → mode_of paint ≡ black t → (rows' : List ℕ) → Rows rows' (with_action (mode_of paint) (act t i) (sets_of rows)) → Drawing t n rows' (i + 1)
  drawing_turn h paint m rows' e = record {
    within = omega arith;
    long = e.long;
    drawn = e.states ∙ rw (m, D.drawn) (arcs_more t i);
  }

  pub drawing_end : n ≤ i → n ≡ actions t → sets_of rows ≡ black_arc t
  unfolding arcs_below black_arc causal_arc
  drawing_end h all = let e : i ≡ actions t = omega (arith, D.within) in D.drawn ∙ rw e refl
