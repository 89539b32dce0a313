-- The relaxed plan. Where no action stands twice in a run, the table of first achievers says of an entry exactly which of its effects
-- were not held before it (`Reaches`). So an entry that is not kept adds no needed fact, and the kept ones, replayed from any state
-- that has the needed facts of the old one, reach every needed fact when the run did.
use Prim.Native.Nat.{ℕ, suc, ◌≤◌, ◌<◌}
use mathlib.Core.Path.{◌≡◌, refl, sym, ◌∙◌, ap}
use mathlib.Core.Logic.{◌⊎◌, inl, inr, ◌≢◌}
use mathlib.Core.Bool.{Bool, true, false, not, ◌&&◌, ◌||◌, and-false}
use mathlib.Core.List.{List, [], ◌∷◌}
use mathlib.Core.Option.{Option, none, some}
use lib.Dec.{T, T_not, eqb, eqb→eq, eqb_refl}
use lib.ListN.{length}
use native.Mathlib.Omega.{arith}
use Rattle.planning.specs.Record.{Fact, Action, Task}
use Rattle.planning.specs.Runs.{State, has, holds, step, actions, act, relaxed, initial, goals, run, runs, is_plan, run_by, runs_by}
use Rattle.planning.specs.Relaxed.{addable, forward_run, forward_end, reaches_goals, first_achiever, is, reached_needed, Kept, keep, relaxed_plan}
use Rattle.laws.proofs.Tests.{T→true, F→false, or_l, or_r, and_l, and_r, and_i, T_cases}
use Rattle.laws.proofs.Facts.{◌⊆◌, has_nil, has_cases, holds→sub, sub→holds}
use Rattle.laws.proofs.Steps.{step_eff, step_keep, step_cases, All}
use Rattle.laws.proofs.Formed.{Formed}
use Rattle.laws.proofs.Plans.{is_plan_intro}
use Rattle.laws.proofs.Forward.{Once, forward_run_ran, forward_run_length, forward_run_once}

module _ (act : ℕ → Action) where
  -- at each entry of the list, run from the state s, the table names the entry for its effects that are new, and for no other effect
  abbrev pub Reaches : (ℕ → ℕ → Option ℕ) → List ℕ → State → Type 0
  Reaches by [] s = Unit {0}
  Reaches by (i ∷ l) s = ((v d : ℕ) → T (has (act i).eff v d) → is i (by v d) ≡ not (s v d)) × Reaches by l (step relaxed (act i) s)

  -- a fact that is held has no first achiever from there on
  pub first_achiever_held : (l : List ℕ) (s : State) (v d : ℕ) → T (s v d) → first_achiever act l s v d ≡ none
  unfolding first_achiever
  first_achiever_held [] s v d h = refl
  first_achiever_held (i ∷ l) s v d h =
      let z = F→false (has (act i).eff v d && not (s v d)) (λ t. T_not (s v d) (search and_r) h) in
      ap (λ b. elim b as (λ _. Option ℕ) [ true ↦ some i | false ↦ first_achiever act l (step relaxed (act i) s) v d ]) z
      ∙ first_achiever_held l (step relaxed (act i) s) v d (step_keep relaxed (act i) s v d h (λ x _. x))

  -- an entry i that is not in the list may be put into the table for facts that are held
  reaches_shadow : (i : ℕ) (by by' : ℕ → ℕ → Option ℕ) (l : List ℕ) (s : State) → All (λ j. i ≢ j) l → ((v d : ℕ) → (by' v d ≡ by v d) ⊎ ((by' v d ≡ some i) × T (s v d)))
      → Reaches by l s → Reaches by' l s
  unfolding is
  reaches_shadow i by by' [] s n h R = tt
  reaches_shadow i by by' (j ∷ l) s n h R = (
    λ v d t. go v d (h v d) (R.0 v d t),
    reaches_shadow i by by' l (step relaxed (act j) s) n.1 (λ v d. elim (h v d) [ inl e ↦ inl e | inr k ↦ inr (k.0, step_keep relaxed (act j) s v d k.1 (λ x _. x)) ]) R.1,
  )
    where
      go : (v d : ℕ) → (by' v d ≡ by v d) ⊎ ((by' v d ≡ some i) × T (s v d)) → is j (by v d) ≡ not (s v d) → is j (by' v d) ≡ not (s v d)
      go v d (inl e) r = rw e r
      go v d (inr k) r = rw (k.0, T→true (s v d) k.1) (F→false (eqb j i) (λ t. n.0 (sym (eqb→eq j i t))))

  first_achiever_own : (i : ℕ) (l : List ℕ) (s : State) (v d : ℕ) → T (has (act i).eff v d) → is i (first_achiever act (i ∷ l) s v d) ≡ not (s v d)
  unfolding first_achiever is
  first_achiever_own i l s v d t = go (s v d) refl
    where
      pick : Bool → Option ℕ
      pick b = elim b [ true ↦ some i | false ↦ first_achiever act l (step relaxed (act i) s) v d ]

      go : (b : Bool) → s v d ≡ b → is i (pick (has (act i).eff v d && not b)) ≡ not b
      go true e = rw (and-false (has (act i).eff v d), first_achiever_held l (step relaxed (act i) s) v d (step_keep relaxed (act i) s v d (rw e tt) (λ x _. x))) refl
      go false e = rw (T→true (has (act i).eff v d) t) (T→true (eqb i i) (eqb_refl i))

  first_achiever_later : (i : ℕ) (l : List ℕ) (s : State) (v d : ℕ)
      → (first_achiever act (i ∷ l) s v d ≡ first_achiever act l (step relaxed (act i) s) v d) ⊎ ((first_achiever act (i ∷ l) s v d ≡ some i) × T (step relaxed (act i) s v d))
  unfolding first_achiever
  first_achiever_later i l s v d = go (has (act i).eff v d && not (s v d)) refl
    where
      rest : Option ℕ
      rest = first_achiever act l (step relaxed (act i) s) v d

      pick : Bool → Option ℕ
      pick b = elim b [ true ↦ some i | false ↦ rest ]

      go : (b : Bool) → (has (act i).eff v d && not (s v d)) ≡ b → (pick b ≡ rest) ⊎ ((pick b ≡ some i) × T (step relaxed (act i) s v d))
      go true e = inr (refl, step_eff relaxed (act i) s v d (and_l (has (act i).eff v d) (not (s v d)) (rw e tt)))
      go false e = inl refl

  pub first_achiever_reaches : (l : List ℕ) (s : State) → Once l → Reaches (first_achiever act l s) l s
  first_achiever_reaches [] s o = tt
  first_achiever_reaches (i ∷ l) s o = (
    first_achiever_own i l s,
    reaches_shadow i (first_achiever act l (step relaxed (act i) s)) (first_achiever act (i ∷ l) s) l (step relaxed (act i) s) o.0 (first_achiever_later i l s)
        (first_achiever_reaches l (step relaxed (act i) s) o.1),
  )

-- an effect that the table names and that is needed has its entry kept
pub reached_needed_intro : (by : ℕ → ℕ → Option ℕ) (N : State) (i : ℕ) (fs : List Fact) (v d : ℕ) → T (has fs v d) → T (N v d) → T (is i (by v d)) → T (reached_needed by N i fs)
unfolding reached_needed
reached_needed_intro by N i [] v d h n k = absurd (has_nil v d h)
reached_needed_intro by N i (f ∷ fs) v d h n k = go (has_cases f fs v d h) (λ g. reached_needed_intro by N i fs v d g n k)
  where
    own : Bool
    own = is i (by f.var f.val) && N f.var f.val

    go : ((v ≡ f.var) × (d ≡ f.val)) ⊎ T (has fs v d) → (T (has fs v d) → T (reached_needed by N i fs)) → T (own || reached_needed by N i fs)
    go (inl e) g = or_l own (reached_needed by N i fs) (and_i (is i (by f.var f.val)) (N f.var f.val) (rw (e.0, e.1) at k) (rw (e.0, e.1) at n))
    go (inr e) g = or_r own (reached_needed by N i fs) (g e)

module _ (act : ℕ → Action) (by : ℕ → ℕ → Option ℕ) (goal : List Fact) where
  -- the kept actions run from X and reach the goals
  pub record Replayed (X : State) (r : Kept) : Type 0 where
    pub runs' : T (runs act relaxed r.actions' X)
    pub meets : has goal ⊆ run act relaxed r.actions' X

  pub keep_replayed : (l : List ℕ) (s : State) → Reaches act by l s → T (runs act relaxed l s) → has goal ⊆ run act relaxed l s
      → (X : State) → ((v d : ℕ) → T ((keep act by goal l).needed v d) → T (s v d) → T (X v d)) → Replayed X (keep act by goal l)
  unfolding keep run_by runs_by
  keep_replayed [] s R r g X h = record { runs' = tt; meets = λ v d t. h v d t (g v d t) }
  keep_replayed (i ∷ l) s R r g X h = go (reached_needed by N i (act i).eff) refl h (keep_replayed l (step relaxed (act i) s) R.1 (search and_r) g)
    where
      K : Kept
      K = keep act by goal l

      N : State
      N = K.needed

      choose : Bool → Kept
      choose b = elim b [ true ↦ record { actions' = i ∷ K.actions'; needed = λ v d. has (act i).pre v d || N v d } | false ↦ K ]

      go : (b : Bool) → reached_needed by N i (act i).eff ≡ b → ((v d : ℕ) → T ((choose b).needed v d) → T (s v d) → T (X v d))
          → ((X : State) → ((v d : ℕ) → T (N v d) → T (step relaxed (act i) s v d) → T (X v d)) → Replayed X K) → Replayed X (choose b)
      go true e h f =
          let Q = f (step relaxed (act i) X) (λ v d n t. elim (step_cases relaxed (act i) s v d t) [
            | inl z ↦ step_eff relaxed (act i) X v d z
            | inr k ↦ step_keep relaxed (act i) X v d (h v d (or_r (has (act i).pre v d) (N v d) n) k.0) (λ x _. x)
          ]) in
          record {
            runs' = and_i (holds X (act i).pre) (runs act relaxed K.actions' (step relaxed (act i) X))
                (sub→holds X (act i).pre (λ v d p. h v d (or_l (has (act i).pre v d) (N v d) p) (holds→sub s (act i).pre (search and_l) v d p))) Q.runs';
            meets = Q.meets;
          }
      go false e h f = f X (λ v d n t. elim (step_cases relaxed (act i) s v d t) [
        | inl z ↦ elim (T_cases (s v d)) [
          | inl p ↦ h v d n p
          | inr q ↦ absurd (rw e at (reached_needed_intro by N i (act i).eff v d z n (rw (R.0 v d z) q)))
        ]
        | inr k ↦ h v d n k.0
      ])

  -- the kept ones are some of the list
  pub keep_all : (P : ℕ → Type 0) (l : List ℕ) → All P l → All P (keep act by goal l).actions'
  unfolding keep
  keep_all P [] b = tt
  keep_all P (i ∷ l) b = go (reached_needed by (keep act by goal l).needed i (act i).eff) (keep_all P l b.1)
    where
      K : Kept
      K = keep act by goal l

      choose : Bool → Kept
      choose c = elim c [ true ↦ record { actions' = i ∷ K.actions'; needed = λ v d. has (act i).pre v d || K.needed v d } | false ↦ K ]

      go : (c : Bool) → All P K.actions' → All P (choose c).actions'
      go true h = (b.0, h)
      go false h = h

  pub keep_length : (l : List ℕ) → length (keep act by goal l).actions' ≤ length l
  unfolding keep
  keep_length [] = omega arith
  keep_length (i ∷ l) = go (reached_needed by (keep act by goal l).needed i (act i).eff) (keep_length l)
    where
      K : Kept
      K = keep act by goal l

      choose : Bool → Kept
      choose c = elim c [ true ↦ record { actions' = i ∷ K.actions'; needed = λ v d. has (act i).pre v d || K.needed v d } | false ↦ K ]

      go : (c : Bool) → length K.actions' ≤ length l → length (choose c).actions' ≤ suc (length l)
      go true h = omega arith
      go false h = omega arith

-- the relaxed plan of a task
module _ (t : Task) (F : Formed t) where
  pub relaxed_plan_is_plan : reaches_goals t ≡ true → is_plan t relaxed (relaxed_plan t) ≡ true
  unfolding relaxed_plan reaches_goals forward_end
  relaxed_plan_is_plan e =
      let by : ℕ → ℕ → Option ℕ = first_achiever (act t) (forward_run t) (initial t) in
      let R = forward_run_ran t F in
      let K = keep_replayed (act t) by (goals t) (forward_run t) (initial t) (first_achiever_reaches (act t) (forward_run t) (initial t) (forward_run_once t F)) R.runs'
      (holds→sub (run (act t) relaxed (forward_run t) (initial t)) (goals t) (rw e tt)) (initial t) (λ v d _ h. h) in
      is_plan_intro t relaxed (keep (act t) by (goals t) (forward_run t)).actions'
      (record { below = keep_all (act t) by (goals t) (λ i. i < actions t) (forward_run t) R.below; runs' = K.runs'; meets = K.meets })

  pub relaxed_plan_length : length (relaxed_plan t) ≤ addable t
  unfolding relaxed_plan
  relaxed_plan_length = omega (arith, forward_run_length t F, keep_length (act t) (first_achiever (act t) (forward_run t) (initial t)) (goals t) (forward_run t))
