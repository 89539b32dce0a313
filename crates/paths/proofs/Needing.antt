-- Which variables moves need, and why leads stay right while nothing new of these is held: a path depends on the facts
-- known by the usable arcs alone, and an arc of a black variable is given by an action that sets it.
use mathlib.Core.Path.{◌≡◌, refl, sym, ap, ◌∙◌, subst, fun_ext}
use mathlib.Core.Logic.{inl, inr, ◌≢◌}
use mathlib.Core.Bool.{Bool, true, false, ◌&&◌, ◌||◌, or-false, or_assoc, and-false}
use mathlib.Core.List.{List, [], ◌∷◌}
use mathlib.Core.Option.{Option, none, some}
use Prim.Native.Nat.{ℕ, zero, suc, ◌+◌, ◌/◌, ◌%◌, ◌^◌, ◌<◌, ◌≤◌, pred}
use native.Mathlib.Omega.{arith}
use native.Mathlib.Decide.{dec_lt}
use lib.Bits.{bit_or}
use lib.Dec.{T, eqb, eqb→eq}
use lib.ListN.{length, get_or, drop}
use Rattle.planning.specs.Record.{Fact, Action, Task}
use Rattle.planning.specs.Runs.{State, has, touches, look, holds, actions, count, act, black}
use Rattle.planning.specs.Painting.{reduced_effects, target, fits, leaves, arc_from}
use Rattle.planning.specs.Repair.{usable_arc, best_below, behind, best_in, best_path}
use Rattle.laws.proofs.Facts.{◌⊆◌, has_nil, has→touches, look_some, holds→sub, sub→holds}
use Rattle.laws.proofs.Arcs.{reduced_elim}
use Rattle.laws.proofs.Fields.{act_past}
use Rattle.laws.proofs.Tests.{bool_same, or_l, or_r, or_cases, and_i}
use Rattle.task.specs.Task.{fact_of, facts_of}
use Rattle.sets.specs.Sets.{in_set}
use Rattle.sets.proofs.Slices.{facts_of_drop, facts_of_end}
use Rattle.sets.proofs.Members.{in_set_or, in_set_single}
use Rattle.paths.specs.Paths.{lead_of, lead_to, unknown, slot, lead_in, Memo, any_black, Covers}

-- one turn of a loop over facts, and its end
module _ (l : List ℕ) (k : ℕ) (h : k < length l) (f : ℕ) (ef : f ≡ get_or l k 0) where
  any_cons : (t : Task) → any_black t (facts_of (drop k l)) ≡ (black t (f / 64) || any_black t (facts_of (drop (k + 1) l)))
  unfolding any_black fact_of
  any_cons t = rw (facts_of_drop l k h, ← ef) refl

  pub any_here : (t : Task) → black t (f / 64) ≡ true → any_black t (facts_of (drop k l)) ≡ true
  any_here t e = any_cons t ∙ rw e refl

  pub any_later : (t : Task) → black t (f / 64) ≡ false → any_black t (facts_of (drop k l)) ≡ any_black t (facts_of (drop (k + 1) l))
  any_later t e = any_cons t ∙ rw e refl

  touches_cons : (v : ℕ) → touches (facts_of (drop k l)) v ≡ (eqb v (f / 64) || touches (facts_of (drop (k + 1) l)) v)
  unfolding touches fact_of
  touches_cons v = rw (facts_of_drop l k h, ← ef) refl

  -- the fact's variable joins the set
  pub joined : (m x v : ℕ) → x ≡ 2 ^ (f / 64) → (in_set m v || touches (facts_of (drop k l)) v) ≡ (in_set (bit_or m x) v || touches (facts_of (drop (k + 1) l)) v)
  joined m x v e =
      rw (touches_cons v, in_set_or m x v, e, in_set_single (f / 64) v)
      (sym (or_assoc (in_set m v) (eqb v (f / 64)) (touches (facts_of (drop (k + 1) l)) v)))

module _ (l : List ℕ) (k : ℕ) (h : length l ≤ k) where
  pub any_end : (t : Task) → any_black t (facts_of (drop k l)) ≡ false
  unfolding any_black
  any_end t = rw (facts_of_end l k h) refl

  pub joined_end : (m v : ℕ) → (in_set m v || touches (facts_of (drop k l)) v) ≡ in_set m v
  unfolding touches
  joined_end m v = rw (facts_of_end l k h) (or-false (in_set m v))

-- paths with the same arcs
module _ (act : ℕ → Action) (A : ℕ) (K L : State) (v n : ℕ) (same : (c i : ℕ) → usable_arc act K v c i ≡ usable_arc act L v c i) where
  arcs : usable_arc act K v ≡ usable_arc act L v
  arcs = fun_ext (λ c. fun_ext (λ i. same c i))

  -- the definition over any arcs and any paths behind them
  by : (ℕ → ℕ → Bool) → (ℕ → Option (List ℕ)) → ℕ → ℕ → Option (List ℕ)
  by arc best d c = elim (eqb c d) [ true ↦ some [] | false ↦ best_below act A (λ i. elim (arc c i) [ true ↦ behind i (best (target act v i)) | false ↦ none ]) ]

  best_in_same : (d k c : ℕ) → best_in act A K v k c d ≡ best_in act A L v k c d
  unfolding best_in by
  best_in_same d zero c = refl
  best_in_same d (suc k) c =
      ap (λ (u : ℕ → ℕ → Bool). by u (λ x. best_in act A K v k x d) d c) arcs
      ∙ ap (λ (b : ℕ → Option (List ℕ)). by (usable_arc act L v) b d c) (fun_ext (λ x. best_in_same d k x))

  path_same : (c d : ℕ) → best_path act A K v n c d ≡ best_path act A L v n c d
  unfolding best_path
  path_same c d = ap (λ (o : Option (List ℕ)). elim o as (λ _. List ℕ) [ none ↦ [] | some p ↦ p ]) (best_in_same d (pred n) c)

-- facts on a black variable
touches_any : (t : Task) (fs : List Fact) (v : ℕ) → T (black t v) → T (touches fs v) → T (any_black t fs)
unfolding touches any_black
touches_any t [] v b h = h
touches_any t (f ∷ fs) v b h = elim (or_cases (eqb v f.var) (touches fs v) h) [
  | inl q ↦ or_l (black t f.var) (any_black t fs) (subst (λ (x : ℕ). T (black t x)) (eqb→eq v f.var q) b)
  | inr q ↦ or_r (black t f.var) (any_black t fs) (touches_any t fs v b q)
]

-- an action that sets something is one of the task
sets_inside : (t : Task) (i v x : ℕ) → T (has (act t i).eff v x) → i < actions t
sets_inside t i v x s = go (dec_lt i (actions t))
  where
    go : Dec (i < actions t) → i < actions t
    go (yes b) = b
    go (no n) = absurd (has_nil v x (subst (λ (a : Action). T (has a.eff v x)) (act_past t i (omega arith)) s))

-- more facts are known, but none of a needed variable
module _ (t : Task) (m : ℕ) (C : Covers t (actions t) m) (K L : State) (sub : K ⊆ L) (new : (v d : ℕ) → T (in_set m v) → T (L v d) → T (K v d)) where
  pre_same : (i : ℕ) → i < actions t → T (any_black t (act t i).eff) → holds K (act t i).pre ≡ holds L (act t i).pre
  pre_same i b q =
      bool_same (holds K (act t i).pre) (holds L (act t i).pre)
      (λ h. sub→holds L (act t i).pre (λ v d x. sub v d (holds→sub K (act t i).pre h v d x)))
      (λ h. sub→holds K (act t i).pre (λ v d x. new v d (covered v d x) (holds→sub L (act t i).pre h v d x)))
    where
      covered : (v d : ℕ) → T (has (act t i).pre v d) → T (in_set m v)
      covered v d x = C i v b (and_i (any_black t (act t i).eff) (touches (act t i).pre v) q (has→touches (act t i).pre v d x))

  usable_same : (v : ℕ) → T (black t v) → (c i : ℕ) → usable_arc (act t) K v c i ≡ usable_arc (act t) L v c i
  unfolding usable_arc arc_from leaves
  usable_same v bl c i = go (look (reduced_effects (act t i)) v) refl
    where
      f : Bool
      f = fits (look (act t i).pre v) c

      go : (o : Option ℕ) → look (reduced_effects (act t i)) v ≡ o → (holds K (act t i).pre && (f && leaves o c)) ≡ (holds L (act t i).pre && (f && leaves o c))
      go none e = simp and-false
      go (some x) e =
          let s = (reduced_elim (act t i) v x (look_some (reduced_effects (act t i)) v x e)).0 in
          let any : T (any_black t (act t i).eff) = touches_any t (act t i).eff v bl (has→touches (act t i).eff v x s) in
          rw (pre_same i (sets_inside t i v x s) any) refl

  pub memo_same : (memo : List ℕ) → Memo t K memo → Memo t L memo
  memo_same memo M = record {
    long = M.long;
    leads = λ v d bl b e c cb k.
        let r = M.leads v d bl b e c cb k in
        let same : lead_to t K v d c ≡ lead_to t L v d c = ap (λ (p : List ℕ). lead_of (act t) v c p) (path_same (act t) (actions t) K L v (count t v) (usable_same v bl) c d) in
        (r.0 ∙ same, subst (λ (x : ℕ). lead_in memo (slot v d) (x % 64) ≢ unknown (x % 64)) same r.1);
  }
