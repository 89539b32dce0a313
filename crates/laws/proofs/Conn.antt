-- What has been walked can be walked back. Along every red-black run of an accepted painting, any two values that a black variable has
-- had are joined by walks of usable actions. It holds at the start, where each has had one value. Let an action that applies take v
-- from d to e. What it needs is in W and stays there, so it stays usable: a walk from d to e. By invertibility an action takes v from
-- e to d whose other needs are needs or effects of the first. They are in W after the step, and so is v = e. So the return is
-- usable too, and all earlier walks still are.
use Prim.Native.Nat.{ℕ, ◌<◌}
use mathlib.Core.Path.{◌≡◌, subst}
use mathlib.Core.Logic.{◌⊎◌, inl, inr, ◌≢◌}
use mathlib.Core.List.{List, [], ◌∷◌, ◌++◌}
use lib.Dec.{T, T_not}
use native.Mathlib.Decide.{ℕ_discrete}
use Rattle.planning.specs.Record.{Action}
use Rattle.planning.specs.Runs.{State, has, touches, Mode, step, relaxed}
use Rattle.planning.specs.Painting.{reduced_effects}
use Rattle.laws.proofs.Tests.{T_cases}
use Rattle.laws.proofs.Facts.{◌⊆◌, has→touches, touches→has}
use Rattle.laws.proofs.Steps.{step_eff, step_keep, step_cases, step_mono}
use Rattle.laws.proofs.Arcs.{Arc, arc_reduced}
use Rattle.laws.proofs.Walks.{Walk, walk_map, walk_append, Usable, stop, move}
use Rattle.laws.proofs.Fill.{Sound}
use Rattle.laws.proofs.Known.{◌≈◌}

module _ (act : ℕ → Action) (A : ℕ) (m : Mode) (count : ℕ → ℕ) where
  -- the arc of v by action i from d to e has its return
  pub record Returns (v i d e : ℕ) : Type 0 where
    pub by : ℕ
    pub below : by < A
    pub arc : Arc act v by e d
    pub cond : (u x : ℕ) → u ≢ v → T (has (act by).pre u x) → T (has (act i).pre u x) ⊎ T (has (act i).eff u x)

  -- each arc of a black variable has
  abbrev pub Invertible : Type 0
  Invertible = (v i d e : ℕ) → T (m v) → i < A → d < count v → Arc act v i d e → Returns v i d e

  -- the state s lies in W and has its red facts; a black variable has one value in s; values are below their counts
  pub record Inv (s W : State) : Type 0 where
    pub ins : s ⊆ W
    pub reds : (u x : ℕ) → (T (m u) → ⊥) → T (W u x) → T (s u x)
    pub single : (v c d : ℕ) → T (m v) → T (s v c) → T (s v d) → c ≡ d
    pub ranged : (v c : ℕ) → T (W v c) → c < count v
    pub val : (v : ℕ) → T (m v) → (c : ℕ) × T (s v c)

  -- any two values of a black variable in W are joined by a walk
  abbrev pub Conn : State → Type 0
  Conn W = (v c d : ℕ) → T (m v) → T (W v c) → T (W v d) → (p : List ℕ) × Walk act (Usable act A W v) v c p d

  -- both speak of the facts of W only
  pub inv_same : (s W X : State) → W ≈ X → Inv s W → Inv s X
  inv_same s W X e I = record {
    ins = λ v d h. e.0 v d (I.ins v d h);
    reds = λ u x r h. I.reds u x r (e.1 u x h);
    single = I.single;
    ranged = λ v c h. I.ranged v c (e.1 v c h);
    val = I.val;
  }

  pub conn_same : (W X : State) → W ≈ X → Conn W → Conn X
  conn_same W X e C v c d mv h g =
      let p = C v c d mv (e.1 v c h) (e.1 v d g) in
      (p.0, walk_map (Usable act A X v) (λ i u. record { below = u.below; met = λ x y z. e.0 x y (u.met x y z); changes = u.changes }) p.1)

  module _ (S : Sound act A m) (range : (i v e : ℕ) → i < A → T (has (act i).eff v e) → e < count v) (i : ℕ) (below : i < A) (s W : State) (met : has (act i).pre ⊆ s) (I : Inv s W) where
    -- W after the step
    abbrev W' : State
    W' = step relaxed (act i) W

    pub inv_step : Inv (step m (act i) s) W'
    inv_step = record {
      ins = step_mono m relaxed (act i) s W (λ v t. absurd t) I.ins;
      reds = λ u x r h. elim (step_cases relaxed (act i) W u x h) [ inl e ↦ step_eff m (act i) s u x e | inr k ↦ step_keep m (act i) s u x (I.reds u x r k.0) (λ b _. r b) ];
      single = λ v c d mv h g. one v c d mv (step_cases m (act i) s v c h) (step_cases m (act i) s v d g);
      ranged = λ v c h. elim (step_cases relaxed (act i) W v c h) [ inl e ↦ range i v c below e | inr k ↦ I.ranged v c k.0 ];
      val = λ v mv. elim (T_cases (touches (act i).eff v)) [
        | inl t ↦ ((touches→has (act i).eff v t).0, step_eff m (act i) s v _ (touches→has (act i).eff v t).1)
        | inr n ↦ ((I.val v mv).0, step_keep m (act i) s v _ (I.val v mv).1 (λ _ t. T_not (touches (act i).eff v) n t))
      ];
    }
      where
        Case : ℕ → ℕ → Type 0
        Case v c = T (has (act i).eff v c) ⊎ (T (s v c) × (T (m v) → T (touches (act i).eff v) → ⊥))

        one : (v c d : ℕ) → T (m v) → Case v c → Case v d → c ≡ d
        one v c d mv (inl e) (inl f) = S.effs i below v c d e f
        one v c d mv (inl e) (inr k) = absurd (k.1 mv (has→touches (act i).eff v c e))
        one v c d mv (inr k) (inl e) = absurd (k.1 mv (has→touches (act i).eff v d e))
        one v c d mv (inr k) (inr l) = I.single v c d mv k.0 l.0

    module _ (R : Invertible) (C : Conn W) where
      grow : W ⊆ W'
      grow v x h = step_keep relaxed (act i) W v x h (λ b _. b)

      lift : (v j : ℕ) → Usable act A W v j → Usable act A W' v j
      lift v j u = record { below = u.below; met = λ x y h. grow x y (u.met x y h); changes = u.changes }

      -- the action's own arc from the value c that it met, where it set another
      own : (v c e : ℕ) → T (m v) → T (s v c) → T (has (act i).eff v e) → c ≢ e → Arc act v i c e
      own v c e mv h k q = record { from = λ x g. I.single v x c mv (met v x g) h; into = k; leaves' = q }

      -- an arc, needs in W', is a walk of one move
      one_move : (v j c d : ℕ) → j < A → has (act j).pre ⊆ W' → Arc act v j c d → Walk act (Usable act A W' v) v c (j ∷ []) d
      one_move v j c d b h a = move
          (record { below = b; met = h; changes = has→touches (reduced_effects (act j)) v d (arc_reduced act v c d j a) })
          a.from a.into stop

      -- the walks to and fro between the value that the action met and the one that it set; none where they are the same
      there : (v c e : ℕ) → T (m v) → T (s v c) → T (has (act i).eff v e) → Dec (c ≡ e) → (p : List ℕ) × Walk act (Usable act A W' v) v c p e
      there v c e mv h k (yes q) = ([], subst (λ z. Walk act (Usable act A W' v) v c [] z) q stop)
      there v c e mv h k (no q) = (i ∷ [], one_move v i c e below (λ u x g. grow u x (I.ins u x (met u x g))) (own v c e mv h k q))

      back_met : (v c e : ℕ) → T (has (act i).eff v e) → (r : Returns v i c e) → (u x : ℕ) → T (has (act r.by).pre u x) → Dec (u ≡ v) → T (W' u x)
      back_met v c e k r u x g (yes q) =
          let y = r.arc.from x (rw q at g) in
          rw (q, y) (step_eff relaxed (act i) W v e k)
      back_met v c e k r u x g (no q) = elim (r.cond u x q g) [ inl h ↦ grow u x (I.ins u x (met u x h)) | inr h ↦ step_eff relaxed (act i) W u x h ]

      back : (v c e : ℕ) → T (m v) → T (s v c) → T (has (act i).eff v e) → Dec (c ≡ e) → (p : List ℕ) × Walk act (Usable act A W' v) v e p c
      back v c e mv h k (yes q) = ([], subst (λ z. Walk act (Usable act A W' v) v z [] c) q stop)
      back v c e mv h k (no q) =
          let r = R v i c e mv below (I.ranged v c (I.ins v c h)) (own v c e mv h k q) in
          (r.by ∷ [], one_move v r.by e c r.below (λ u x g. back_met v c e k r u x g (ℕ_discrete u v)) r.arc)

      -- a value in W' is new or old: by the walks above any two are joined by way of the value in s
      Step : ℕ → ℕ → Type 0
      Step v c = T (has (act i).eff v c) ⊎ T (W v c)

      split : (v c : ℕ) → T (W' v c) → Step v c
      unfolding Step
      split v c h = elim (step_cases relaxed (act i) W v c h) [ inl e ↦ inl e | inr k ↦ inr k.0 ]

      join : (v c d : ℕ) → T (m v) → Step v c → Step v d → (p : List ℕ) × Walk act (Usable act A W' v) v c p d
      unfolding Step
      join v c d mv (inl e) (inl f) = ([], subst (λ z. Walk act (Usable act A W' v) v c [] z) (S.effs i below v c d e f) stop)
      join v c d mv (inl e) (inr g) =
          let o = I.val v mv in
          let b = back v o.0 c mv o.1 e (ℕ_discrete o.0 c) in
          let p = C v o.0 d mv (I.ins v o.0 o.1) g in
          (b.0 ++ p.0, walk_append b.1 (walk_map (Usable act A W' v) (lift v) p.1))
      join v c d mv (inr g) (inl e) =
          let o = I.val v mv in
          let p = C v c o.0 mv g (I.ins v o.0 o.1) in
          let a = there v o.0 d mv o.1 e (ℕ_discrete o.0 d) in
          (p.0 ++ a.0, walk_append (walk_map (Usable act A W' v) (lift v) p.1) a.1)
      join v c d mv (inr g) (inr h) =
          let p = C v c d mv g h in
          (p.0, walk_map (Usable act A W' v) (lift v) p.1)

      pub conn_step : Conn W'
      conn_step v c d mv h g = join v c d mv (split v c h) (split v d g)
