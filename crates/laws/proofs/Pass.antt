-- One variable's pass of the repair. Q are the variables that are settled: red ones, and black ones that have had their pass. The old
-- list meets every need on Q; the pass inserts moves of v alone, so that the new list meets every need on Q and on v. The inserted
-- moves may need red facts, which W holds and which never leave, but no settled black variable (clients come first); and they set no
-- settled black variable. An entry of the old list may set v, but only to the value that it needs, where the walk in front of it has left
-- v. So the needs on Q stay met, and v is at each need where the last walk left it.
use Prim.Native.Nat.{ℕ, ◌+◌, ◌*◌, ◌≤◌, ◌<◌}
use mathlib.Core.Path.{◌≡◌, refl, subst}
use mathlib.Core.Logic.{◌⊎◌, inl, inr}
use mathlib.Core.List.{List, [], ◌∷◌, ◌++◌, append-nil}
use mathlib.Core.Option.{Option, none, some}
use lib.Dec.{T, T_not}
use lib.ListN.{length, length-append}
use native.Mathlib.Omega.{arith}
use Rattle.planning.specs.Record.{Fact, Action}
use Rattle.planning.specs.Runs.{State, has, touches, look, Mode, step}
use Rattle.planning.specs.Painting.{reduced_effects}
use Rattle.planning.specs.Repair.{toward, after, pass}
use Rattle.laws.proofs.Tests.{T_cases}
use Rattle.laws.proofs.Facts.{touches→has, Func, look_some, look_none}
use Rattle.laws.proofs.Steps.{step_eff, step_keep, step_at_lem, All}
use Rattle.laws.proofs.Arcs.{unchanged}
use Rattle.laws.proofs.Walks.{Walk, stop, move}

-- the facts of the list on the variables of Q are in the state
abbrev pub HoldsOn : (ℕ → Type 0) → State → List Fact → Type 0
HoldsOn Q t fs = (u x : ℕ) → T (has fs u x) → Q u → T (t u x)

-- every entry's needs on the variables of Q are met as it comes, and those of w at the end
abbrev pub MeetsOn : (ℕ → Action) → (ℕ → Type 0) → Mode → State → List ℕ → List Fact → Type 0
MeetsOn act Q m t [] w = HoldsOn Q t w
MeetsOn act Q m t (i ∷ l) w = HoldsOn Q t (act i).pre × MeetsOn act Q m (step m (act i) t) l w

-- the variables of Q, and v
abbrev pub with : (ℕ → Type 0) → ℕ → ℕ → Type 0
with Q v u = (u ≡ v) ⊎ Q u

-- what an inserted move must satisfy: of the settled variables it needs red facts only, and it moves none that is black
pub record Mover (m : Mode) (Q : ℕ → Type 0) (W : State) (a : Action) : Type 0 where
  pub needs : (u x : ℕ) → T (has a.pre u x) → Q u → (T (m u) → ⊥) × T (W u x)
  pub moves : (u : ℕ) → T (touches a.eff u) → T (m u) → Q u → ⊥

-- the one value that a list has for v is held
held_at : (t : State) (fs : List Fact) (v c u x : ℕ) → u ≡ v → T (has fs u x) → ((y : ℕ) → T (has fs v y) → y ≡ c) → T (t v c) → T (t u x)
held_at t fs v c u x e h f k = rw (e, f x (rw e at h)) k

module _ (act : ℕ → Action) (m : Mode) (Q : ℕ → Type 0) (W : State) (v : ℕ) where
  -- the state of the old run lies in that of the new one on Q; the red facts of W are held; v has the value c
  pub record Near (t t' : State) (c : ℕ) : Type 0 where
    pub sub : (u x : ℕ) → Q u → T (t u x) → T (t' u x)
    pub reds : (u x : ℕ) → (T (m u) → ⊥) → T (W u x) → T (t' u x)
    pub at : T (t' v c)

  near_move : (a : Action) (t t' : State) (c d : ℕ) → Mover m Q W a → T (has a.eff v d) → Near t t' c → Near t (step m a t') d
  near_move a t t' c d U e n = record {
    sub = λ u x q h. step_keep m a t' u x (n.sub u x q h) (λ b k. U.moves u k b q);
    reds = λ u x r h. step_keep m a t' u x (n.reds u x r h) (λ b k. r b);
    at = step_eff m a t' v d e;
  }

  -- a walk of v in front of a list
  walk_meets : {c d : ℕ} {p : List ℕ} → Walk act (λ i. Mover m Q W (act i)) v c p d → (t t' : State) → Near t t' c → (rest : List ℕ) (w : List Fact)
      → ((t'' : State) → Near t t'' d → MeetsOn act (with Q v) m t'' rest w) → MeetsOn act (with Q v) m t' (p ++ rest) w
  walk_meets stop t t' n rest w k = k t' n
  walk_meets (move {c = c} {d = d} {i = i} U pr ef wk) t t' n rest w k = (
    λ u x h. elim [ inl e ↦ held_at t' (act i).pre v c u x e h pr n.at | inr q ↦ n.reds u x (U.needs u x h q).0 (U.needs u x h q).1 ],
    walk_meets wk t (step m (act i) t') (near_move (act i) t t' c d U ef n) rest w k,
  )

  -- what the entries so far must satisfy: none changes v, and what they need of it was held
  pub record Entry (a : Action) : Type 0 where
    pub func : Func a.pre
    pub was : (x : ℕ) → T (has a.pre v x) → T (W v x)
    pub still : T (touches (reduced_effects a) v) → ⊥

  -- v stays at c: the entry does not set it, or it needs the value that it sets, which is c
  stays : (a : Action) (t' : State) (c : ℕ) → Entry a → ((x : ℕ) → T (has a.pre v x) → x ≡ c) → T (t' v c) → T (step m a t' v c)
  stays a t' c E f h = elim (T_cases (touches a.eff v)) [
    | inl k ↦
        let e = touches→has a.eff v k in
        subst (λ x. T (step m a t' v x)) (f e.0 (unchanged a v e.0 E.still e.1)) (step_eff m a t' v e.0 e.1)
    | inr n ↦ step_keep m a t' v c h (λ _ k. T_not (touches a.eff v) n k)
  ]

  near_step : (a : Action) (t t' : State) (c : ℕ) → Entry a → ((x : ℕ) → T (has a.pre v x) → x ≡ c) → Near t t' c → Near (step m a t) (step m a t') c
  near_step a t t' c E f n = record {
    sub = λ u x q h. step_at_lem m m a t t' u x (λ b. b) (n.sub u x q) h;
    reds = λ u x r h. step_keep m a t' u x (n.reds u x r h) (λ b k. r b);
    at = stays a t' c E f n.at;
  }

  module _ (path : ℕ → ℕ → List ℕ) (paths : (c d : ℕ) → T (W v c) → T (W v d) → Walk act (λ i. Mover m Q W (act i)) v c (path c d) d) where
    -- the walk to the value that a list has for v, if it has one
    toward_meets : (o : Option ℕ) (fs : List Fact) → look fs v ≡ o → Func fs → ((x : ℕ) → T (has fs v x) → T (W v x)) → (t t' : State) (c : ℕ) → Near t t' c → T (W v c)
        → (rest : List ℕ) (w : List Fact)
        → ((t'' : State) → Near t t'' (after c o) → T (W v (after c o)) → ((x : ℕ) → T (has fs v x) → x ≡ after c o) → MeetsOn act (with Q v) m t'' rest w)
        → MeetsOn act (with Q v) m t' (toward path c o ++ rest) w
    unfolding toward after
    toward_meets none fs e fn iw t t' c n k rest w cont = cont t' n k (λ x h. absurd (look_none fs v x e h))
    toward_meets (some d) fs e fn iw t t' c n k rest w cont =
        let h = look_some fs v d e in
        walk_meets (paths c d k (iw d h)) t t' n rest w (λ t'' n'. cont t'' n' (iw d h) (λ x g. fn v x d g h))

    pub pass_meets : (l : List ℕ) (w : List Fact) → Func w → ((x : ℕ) → T (has w v x) → T (W v x)) → All (λ i. Entry (act i)) l → (t t' : State) (c : ℕ) → Near t t' c → T (W v c)
        → MeetsOn act Q m t l w → MeetsOn act (with Q v) m t' (pass act path v c l w) w
    unfolding pass
    pass_meets [] w fn iw E t t' c n k ok =
        subst (λ l. MeetsOn act (with Q v) m t' l w) (append-nil (toward path c (look w v)))
        (toward_meets (look w v) w refl fn iw t t' c n k [] w (λ t'' n' k' eq u x h. elim [ inl e ↦ held_at t'' w v (after c (look w v)) u x e h eq n'.at | inr q ↦ n'.sub u x q (ok u x h q) ]))
    pass_meets (i ∷ l) w fn iw E t t' c n k ok =
        let o = look (act i).pre v in
        toward_meets o (act i).pre refl E.0.func E.0.was t t' c n k (i ∷ pass act path v (after c o) l w) w
        (λ t'' n' k' eq. (
          λ u x h. elim [ inl e ↦ held_at t'' (act i).pre v (after c o) u x e h eq n'.at | inr q ↦ n'.sub u x q (ok.0 u x h q) ],
          pass_meets l w fn iw E.1 (step m (act i) t) (step m (act i) t'') (after c o) (near_step (act i) t t'' (after c o) E.0 eq n') k' ok.1,
        ))

-- the length of a pass: each of the gaps takes a path of less than k moves
module _ (act : ℕ → Action) (path : ℕ → ℕ → List ℕ) (v k : ℕ) (short : (c d : ℕ) → length (path c d) < k) where
  toward_short : (c : ℕ) (o : Option ℕ) → length (toward path c o) < k
  unfolding toward
  toward_short c none = omega (arith, short 0 0)
  toward_short c (some d) = short c d

  pub pass_short : (l : List ℕ) (w : List Fact) (c : ℕ) → length (pass act path v c l w) + 1 ≤ (length l + 1) * k
  unfolding pass
  pass_short [] w c = omega (arith, toward_short c (look w v))
  pass_short (i ∷ l) w c =
      let o = look (act i).pre v in
      rw (length-append) (omega (arith, toward_short c o, pass_short l w (after c o)))
