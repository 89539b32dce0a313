-- The moves inserted for one need: a pass for each black variable, clients first. Claims, by induction over the variables taken: each
-- entry of the list so far is usable and changes, of the black variables, taken ones only (`Old`); and the list meets all needs on
-- the settled variables (`MeetsOn`). When all are settled the list runs and meets the wanted facts. Each pass multiplies the
-- number of gaps by at most the variable's count of values, so that the list has fewer than P entries.
use Prim.Native.Nat.{ℕ, ◌+◌, ◌*◌, ◌≤◌, ◌<◌}
use mathlib.Core.Path.{◌≡◌, refl, subst}
use mathlib.Core.Logic.{inl, inr}
use mathlib.Core.List.{List, [], ◌∷◌}
use mathlib.Core.Option.{Option, none, some}
use lib.Dec.{T}
use lib.ListN.{length, length-append}
use native.Mathlib.Omega.{arith}
use native.Mathlib.Nat.{mul-le-mul_right}
use Rattle.planning.specs.Record.{Fact, Action}
use Rattle.planning.specs.Runs.{State, has, touches, look, holds, Mode, step, run, runs, run_by, runs_by}
use Rattle.planning.specs.Painting.{reduced_effects}
use Rattle.planning.specs.Repair.{toward, after, pass, fill, asked_for, pass_searches, fill_searches}
use Rattle.laws.proofs.Tests.{and_i}
use Rattle.laws.proofs.Facts.{◌⊆◌, sub→holds, touches→has, Func, look_some}
use Rattle.laws.proofs.Steps.{All, all_append, all_map}
use Rattle.laws.proofs.Arcs.{unchanged}
use Rattle.laws.proofs.Walks.{Walk, walk_all, walk_map, Usable}
use Rattle.laws.proofs.Pass.{MeetsOn, with, Mover, Entry, pass_meets, pass_short}

-- the variables of Q, and those of the list
abbrev pub withs : (ℕ → Type 0) → List ℕ → ℕ → Type 0
withs Q [] = Q
withs Q (v ∷ vs) = withs (with Q v) vs

module _ (act : ℕ → Action) (A : ℕ) (m : Mode) where
  -- no action that changes v needs a settled black variable
  abbrev pub NoArc : (ℕ → Type 0) → ℕ → Type 0
  NoArc Q v = (i : ℕ) → i < A → T (touches (reduced_effects (act i)) v) → (u x : ℕ) → T (has (act i).pre u x) → Q u → T (m u) → ⊥

  -- each variable of the list is black, is not settled yet, and has no settled client
  abbrev pub Ordered : (ℕ → Type 0) → List ℕ → Type 0
  Ordered Q [] = Unit {0}
  Ordered Q (v ∷ vs) = T (m v) × (Q v → ⊥) × NoArc Q v × Ordered (with Q v) vs

  -- lists of facts are functions, and no action changes two black variables
  pub record Sound : Type 0 where
    pub pres : (i : ℕ) → i < A → Func (act i).pre
    pub effs : (i : ℕ) → i < A → Func (act i).eff
    pub one : (i u v : ℕ) → i < A → T (touches (reduced_effects (act i)) u) → T (touches (reduced_effects (act i)) v) → T (m u) → T (m v) → u ≡ v

  module _ (S : Sound) (W s : State) (path : ℕ → ℕ → ℕ → List ℕ) (val : ℕ → ℕ)
      (paths : (v c d : ℕ) → T (m v) → T (W v c) → T (W v d) → Walk act (Usable act A W v) v c (path v c d) d)
      (reds : (u x : ℕ) → (T (m u) → ⊥) → T (W u x) → T (s u x)) (ins : s ⊆ W) (at : (v : ℕ) → T (m v) → T (s v (val v))) (w : List Fact) (fw : Func w) (ww : has w ⊆ W) where
    -- an entry of the list when the variables of Q are settled
    pub record Old (Q : ℕ → Type 0) (i : ℕ) : Type 0 where
      pub below : i < A
      pub met : has (act i).pre ⊆ W
      pub within : (u : ℕ) → T (touches (reduced_effects (act i)) u) → T (m u) → Q u

    -- a usable action that changes v sets no settled black variable: it changes none, and needs none that it could set again
    mover : (Q : ℕ → Type 0) (v : ℕ) → T (m v) → (Q v → ⊥) → NoArc Q v → (i : ℕ) → Usable act A W v i → Mover m Q W (act i)
    mover Q v mv nq na i U = record {
      needs = λ u x h q. (λ mu. na i U.below U.changes u x h q mu, U.met u x h);
      moves = λ u k mu q.
          let e = touches→has (act i).eff u k in
          let h = unchanged (act i) u e.0 (λ c. nq (subst Q (S.one i u v U.below c U.changes mu mv) q)) e.1 in
          na i U.below U.changes u e.0 h q mu;
    }

    fresh : (Q : ℕ → Type 0) (v : ℕ) → T (m v) → (i : ℕ) → Usable act A W v i → Old (with Q v) i
    fresh Q v mv i U = record { below = U.below; met = U.met; within = λ u k mu. inl (S.one i u v U.below k U.changes mu mv) }

    older : (Q : ℕ → Type 0) (v i : ℕ) → Old Q i → Old (with Q v) i
    older Q v i o = record { below = o.below; met = o.met; within = λ u k mu. inr (o.within u k mu) }

    entry : (Q : ℕ → Type 0) (v : ℕ) → T (m v) → (Q v → ⊥) → (i : ℕ) → Old Q i → Entry act m Q W v (act i)
    entry Q v mv nq i o = record { func = S.pres i o.below; was = o.met v; still = λ k. nq (o.within v k mv) }

    toward_all : (Q : ℕ → Type 0) (v c : ℕ) → T (m v) → T (W v c) → (fs : List Fact) → has fs ⊆ W → (o : Option ℕ) → look fs v ≡ o
        → All (Old (with Q v)) (toward (path v) c o) × T (W v (after c o))
    unfolding toward after
    toward_all Q v c mv k fs h none e = (tt, k)
    toward_all Q v c mv k fs h (some d) e =
        let g = h v d (look_some fs v d e) in
        (all_map (Usable act A W v) (Old (with Q v)) (fresh Q v mv) (path v c d) (walk_all (paths v c d mv k g)), g)

    pass_all : (Q : ℕ → Type 0) (v c : ℕ) → T (m v) → T (W v c) → (l : List ℕ) → All (Old Q) l → All (Old (with Q v)) (pass act (path v) v c l w)
    unfolding pass
    pass_all Q v c mv k [] h = (toward_all Q v c mv k w ww (look w v) refl).0
    pass_all Q v c mv k (i ∷ l) h =
        let o = look (act i).pre v in
        let r = toward_all Q v c mv k (act i).pre h.0.met o refl in
        all_append (Old (with Q v)) (toward (path v) c o) (i ∷ pass act (path v) v (after c o) l w) r.0 (older Q v i h.0, pass_all Q v (after c o) mv r.1 l h.1)

    pub fill_meets : (vs : List ℕ) (Q : ℕ → Type 0) (l : List ℕ) → Ordered Q vs → All (Old Q) l → MeetsOn act Q m s l w
        → MeetsOn act (withs Q vs) m s (fill act path val vs l w) w × All (Old (withs Q vs)) (fill act path val vs l w)
    unfolding fill
    fill_meets [] Q l o h ok = (ok, h)
    fill_meets (v ∷ vs) Q l o h ok =
        let mv = o.0 in
        let wc = ins v (val v) (at v mv) in
        fill_meets vs (with Q v) (pass act (path v) v (val v) l w) o.3 (pass_all Q v (val v) mv wc l h)
        (pass_meets act m Q W v (path v) (λ c d p q. walk_map (λ i. Mover m Q W (act i)) (mover Q v mv o.1 o.2) (paths v c d mv p q))
        l w fw (ww v) (all_map (Old Q) (λ i. Entry act m Q W v (act i)) (entry Q v mv o.1) l h) s s (val v) (record { sub = λ u x q g. g; reds = reds; at = at v mv }) wc ok)

-- every variable is settled: the list runs, and meets the need
module _ (act : ℕ → Action) (Q : ℕ → Type 0) (all : (u : ℕ) → Q u) (m : Mode) (w : List Fact) where
  pub meets→runs : (l : List ℕ) (s : State) → MeetsOn act Q m s l w → T (runs act m l s) × (has w ⊆ run act m l s)
  unfolding runs_by run_by
  meets→runs [] s ok = (tt, λ u x h. ok u x h (all u))
  meets→runs (i ∷ l) s ok =
      let r = meets→runs l (step m (act i) s) ok.1 in
      (and_i (holds s (act i).pre) (runs act m l (step m (act i) s)) (sub→holds s (act i).pre (λ u x h. ok.0 u x h (all u))) r.0, r.1)

-- the product of the counts of the variables of a list
unfoldable pub product : (ℕ → ℕ) → List ℕ → ℕ
product f [] = 1
product f (v ∷ vs) = f v * product f vs

module _ (act : ℕ → Action) (path : ℕ → ℕ → ℕ → List ℕ) (val count : ℕ → ℕ) (short : (v c d : ℕ) → length (path v c d) < count v) where
  pub fill_short : (vs l : List ℕ) (w : List Fact) → length (fill act path val vs l w) + 1 ≤ (length l + 1) * product count vs
  unfolding fill product
  fill_short [] l w = omega arith
  fill_short (v ∷ vs) l w =
      let k = pass_short act (path v) v (count v) (short v) l w (val v) in
      let r = fill_short vs (pass act (path v) v (val v) l w) w in
      omega (arith, mul-le-mul_right (product count vs) k)

-- no pass shortens the list: where a list on the way is too long, so is the last one
pub pass_grows : (act : ℕ → Action) (path : ℕ → ℕ → List ℕ) (v c : ℕ) (l : List ℕ) (w : List Fact) → length l ≤ length (pass act path v c l w)
unfolding pass
pass_grows act path v c [] w = omega arith
pass_grows act path v c (i ∷ l) w = rw length-append (omega (arith, pass_grows act path v (after c (look (act i).pre v)) l w))

pub fill_grows : (act : ℕ → Action) (path : ℕ → ℕ → ℕ → List ℕ) (val : ℕ → ℕ) (vs l : List ℕ) (w : List Fact) → length l ≤ length (fill act path val vs l w)
unfolding fill
fill_grows act path val [] l w = omega arith
fill_grows act path val (v ∷ vs) l w = omega (arith, pass_grows act (path v) v (val v) l w, fill_grows act path val vs (pass act (path v) v (val v) l w) w)

-- a pass asks for at most one path an entry and one at the end, and no list on the way is longer than the last one
pub asked_for_one : (o : Option ℕ) → asked_for o ≤ 1
unfolding asked_for
asked_for_one none = omega arith
asked_for_one (some d) = omega arith

pub pass_searches_lem : (act : ℕ → Action) (v : ℕ) (l : List ℕ) (w : List Fact) → pass_searches act v l w ≤ length l + 1
unfolding pass_searches
pass_searches_lem act v [] w = asked_for_one (look w v)
pass_searches_lem act v (i ∷ l) w = omega (arith, asked_for_one (look (act i).pre v), pass_searches_lem act v l w)

pub fill_searches_lem : (act : ℕ → Action) (path : ℕ → ℕ → ℕ → List ℕ) (val : ℕ → ℕ) (vs l : List ℕ) (w : List Fact)
    → fill_searches act path val vs l w ≤ length vs * (length (fill act path val vs l w) + 1)
unfolding fill fill_searches
fill_searches_lem act path val [] l w = omega arith
fill_searches_lem act path val (v ∷ vs) l w =
    omega (arith, pass_searches_lem act v l w, fill_grows act path val (v ∷ vs) l w, fill_searches_lem act path val vs (pass act (path v) v (val v) l w) w)
