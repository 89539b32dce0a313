-- The facts of R and B. Red facts never leave a state, so 'red now or black ever' is 'held ever', and that is what the relaxed run of
-- the same list holds. Clause 6.3 is the definition (`known`); by `known_run` the proofs speak of a relaxed run instead.
use Prim.Native.Nat.{ℕ}
use mathlib.Core.Logic.{◌⊎◌, inl, inr}
use mathlib.Core.Bool.{not, ◌&&◌}
use mathlib.Core.List.{List, [], ◌∷◌}
use lib.Dec.{T, T_not, not_T}
use Rattle.planning.specs.Record.{Action}
use Rattle.planning.specs.Runs.{State, Mode, step, relaxed, run, run_by}
use Rattle.planning.specs.Repair.{known, union, ever_after}
use Rattle.laws.proofs.Tests.{or_l, or_r, or_cases, and_l, and_r, and_i, T_cases}
use Rattle.laws.proofs.Facts.{◌⊆◌}
use Rattle.laws.proofs.Steps.{step_eff, step_keep, step_cases, run_mono}

-- the same facts
abbrev pub ◌≈◌ : State → State → Type 0
s ≈ t = (s ⊆ t) × (t ⊆ s)

infix 4 ◌≈◌
pub ≈_trans : (s t u : State) → s ≈ t → t ≈ u → s ≈ u
≈_trans s t u h g = (λ v d x. g.0 v d (h.0 v d x), λ v d x. h.1 v d (g.1 v d x))

module _ (m : Mode) (now ever : State) (v d : ℕ) where
  known_now : (T (m v) → ⊥) → T (now v d) → T (known m now ever v d)
  unfolding known
  known_now r h = or_l (not (m v) && now v d) (m v && ever v d) (and_i (not (m v)) (now v d) (not_T (m v) r) h)

  known_ever : T (m v) → T (ever v d) → T (known m now ever v d)
  unfolding known
  known_ever b h = or_r (not (m v) && now v d) (m v && ever v d) (and_i (m v) (ever v d) b h)

  known_cases : T (known m now ever v d) → ((T (m v) → ⊥) × T (now v d)) ⊎ (T (m v) × T (ever v d))
  unfolding known
  known_cases h = elim (or_cases (not (m v) && now v d) (m v && ever v d) h) [
    | inl a ↦ inl (T_not (m v) (and_l (not (m v)) (now v d) a), and_r (not (m v)) (now v d) a)
    | inr a ↦ inr (and_l (m v) (ever v d) a, and_r (m v) (ever v d) a)
  ]

  -- what is held both now and ever
  known_both : T (now v d) → T (ever v d) → T (known m now ever v d)
  known_both h g = elim (T_cases (m v)) [ inl b ↦ known_ever b g | inr r ↦ known_now (T_not (m v) r) h ]

union_old : (ever now : State) → ever ⊆ union ever now
unfolding union
union_old ever now v d h = or_l (ever v d) (now v d) h

union_new : (ever now : State) → now ⊆ union ever now
unfolding union
union_new ever now v d h = or_r (ever v d) (now v d) h

union_cases : (ever now : State) (v d : ℕ) → T (union ever now v d) → T (ever v d) ⊎ T (now v d)
unfolding union
union_cases ever now v d h = or_cases (ever v d) (now v d) h

pub known_start : (m : Mode) (s : State) → s ≈ known m s s
known_start m s = (λ v d h. known_both m s s v d h h, λ v d h. elim (known_cases m s s v d h) [ inl a ↦ a.1 | inr a ↦ a.1 ])

known_step : (m : Mode) (a : Action) (s ever : State) → s ⊆ ever → step relaxed a (known m s ever) ≈ known m (step m a s) (union ever (step m a s))
known_step m a s ever w = (to, from)
  where
    s' : State
    s' = step m a s

    to : step relaxed a (known m s ever) ⊆ known m s' (union ever s')
    to v d h = elim (step_cases relaxed a (known m s ever) v d h) [
      | inl e ↦ let n = step_eff m a s v d e in known_both m s' (union ever s') v d n (union_new ever s' v d n)
      | inr k ↦ elim (known_cases m s ever v d k.0) [
        | inl r ↦ known_now m s' (union ever s') v d r.0 (step_keep m a s v d r.1 (λ b _. r.0 b))
        | inr b ↦ known_ever m s' (union ever s') v d b.0 (union_old ever s' v d b.1)
      ]
    ]

    old : (v d : ℕ) → T (known m s ever v d) → T (step relaxed a (known m s ever) v d)
    old v d h = step_keep relaxed a (known m s ever) v d h (λ x _. x)

    new : (v d : ℕ) → T (s' v d) → T (step relaxed a (known m s ever) v d)
    new v d h = elim (step_cases m a s v d h) [ inl e ↦ step_eff relaxed a (known m s ever) v d e | inr k ↦ old v d (known_both m s ever v d k.0 (w v d k.0)) ]

    from : known m s' (union ever s') ⊆ step relaxed a (known m s ever)
    from v d h = elim (known_cases m s' (union ever s') v d h) [
      | inl r ↦ new v d r.1
      | inr b ↦ elim (union_cases ever s' v d b.1) [ inl e ↦ old v d (known_ever m s ever v d b.0 e) | inr n ↦ new v d n ]
    ]

module _ (act : ℕ → Action) (m : Mode) where
  pub ever_after_now : (l : List ℕ) (s ever : State) → s ⊆ ever → run act m l s ⊆ ever_after act m l s ever
  unfolding run_by ever_after
  ever_after_now [] s ever w = w
  ever_after_now (i ∷ l) s ever w = ever_after_now l (step m (act i) s) (union ever (step m (act i) s)) (union_new ever (step m (act i) s))

  pub known_run : (l : List ℕ) (s ever : State) → s ⊆ ever → run act relaxed l (known m s ever) ≈ known m (run act m l s) (ever_after act m l s ever)
  unfolding run_by ever_after
  known_run [] s ever w = (λ v d h. h, λ v d h. h)
  known_run (i ∷ l) s ever w =
      let s' : State = step m (act i) s in
      let k = known_step m (act i) s ever w in
      let a : State = step relaxed (act i) (known m s ever) in
      let b : State = known m s' (union ever s') in
      ≈_trans (run act relaxed l a) (run act relaxed l b) (known m (run act m l s') (ever_after act m l s' (union ever s')))
      (run_mono act relaxed relaxed (λ v t. t) l a b k.0, run_mono act relaxed relaxed (λ v t. t) l b a k.1)
      (known_run l s' (union ever s') (union_new ever s'))
