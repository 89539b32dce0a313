-- The path read off the leads: each lead comes one move closer, so the path is the definition's. A lead whose target is the value
-- itself is that of an empty path, as an arc leaves its value.
use mathlib.Core.Path.{◌≡◌, refl, sym, ap, ◌∙◌}
use mathlib.Core.Logic.{◌≢◌}
use mathlib.Core.List.{List, [], ◌∷◌, ◌++◌, append_assoc, append-nil}
use mathlib.Core.Option.{none, some}
use Prim.Native.Nat.{ℕ, zero, suc, pred, ◌+◌, ◌/◌, ◌%◌, ◌<◌, ◌≤◌}
use native.Mathlib.Numerals.{add-one}
use native.Mathlib.Omega.{arith}
use borrow.Author.Tests.{eq-eqb}
use lib.Dec.{T}
use lib.ListN.{length, set, take, length-set}
use lib.Seq.{take-suc-set}
use Rattle.planning.specs.Record.{Task}
use Rattle.planning.specs.Runs.{State, actions, count, act}
use Rattle.planning.specs.Painting.{target}
use Rattle.planning.specs.Repair.{usable_arc, best_in, best_path}
use Rattle.laws.proofs.Formed.{Formed}
use Rattle.laws.proofs.Best.{best_onward, arcs_inside}
use Rattle.search.proofs.UsableArcs.{arc_leaves}
use Rattle.paths.specs.Paths.{paths_of, lead_of, lead_to, unknown}
use Rattle.asking.specs.Asking.{Put}
use Rattle.std.specs.Prelude.{Some}

-- the path to where the variable is has no moves, and nothing is written
pub path_none : (t : Task) (K : State) (v c d : ℕ) → c ≡ d → paths_of t K v c d ≡ []
unfolding best_path best_in
path_none t K v c d e = go (pred (count t v))
  where
    go : (k : ℕ) → ◌≡◌ {A = List ℕ} (elim (best_in (act t) (actions t) K v k c d) [ none ↦ [] | some p ↦ p ]) []
    go zero = rw (eq-eqb c d e) refl
    go (suc k) = rw (eq-eqb c d e) refl

-- the list while a path is written: what stands before e, and the path from the value x on, whose lead is l
pub record Walking (t : Task) (K : State) (v d c at : ℕ) (d₀ dd : List ℕ) (x e l : ℕ) : Type 0 where
  pub within : e ≤ length d₀
  pub long : length dd ≡ length d₀
  pub inside : x < count t v
  pub is_lead : l ≡ lead_to t K v d x
  pub so_far : take at d₀ ++ paths_of t K v c d ≡ take e dd ++ paths_of t K v x d
  pub counts : at + length (paths_of t K v c d) ≡ e + length (paths_of t K v x d)

module _ (t : Task) (F : Formed t) (K : State) (v d : ℕ) where
  abbrev n : ℕ
  n = count t v

  abbrev A : ℕ
  A = actions t

  abbrev Path' : ℕ → List ℕ
  Path' c = paths_of t K v c d

  inside : (c i : ℕ) → i < A → T (usable_arc (act t) K v c i) → target (act t) v i < n
  inside = arcs_inside t F K v

  walk_stop : (x : ℕ) → x < n → lead_to t K v d x % 64 ≡ x → Path' x ≡ []
  unfolding lead_of
  walk_stop x b e = go (Path' x) refl e
    where
      go : (p : List ℕ) → Path' x ≡ p → lead_of (act t) v x p % 64 ≡ x → p ≡ []
      go [] q e = refl
      go (i ∷ p) q e =
          let o = best_onward (act t) A K v d n inside x b i p q in
          let m : target (act t) v i < n = inside x i o.below o.usable in
          absurd (arc_leaves t F K v x i o.below o.usable (omega (arith, e, F.count_max v)))

  -- so no lead is that of a move to the value itself
  pub lead_moves : (x : ℕ) → x < n → lead_to t K v d x ≢ unknown x
  unfolding lead_of
  lead_moves x b e = let z : lead_to t K v d x ≡ x = rw (walk_stop x b (omega (arith, e, F.count_max v))) refl in omega (arith, e, z)

  -- the lead of another path: its first action, and where the path goes on
  pub record Move (x l : ℕ) : Type 0 where
    pub below : l / 64 < A
    pub there : l % 64 < n
    pub rest : Path' x ≡ l / 64 ∷ Path' (l % 64)

  walk_move : (x l : ℕ) → x < n → l ≡ lead_to t K v d x → (l % 64 ≡ x → ⊥) → Move x l
  unfolding lead_of
  walk_move x l b e ne = go (Path' x) refl e
    where
      go : (p : List ℕ) → Path' x ≡ p → l ≡ lead_of (act t) v x p → Move x l
      go [] q e = absurd (ne (omega (arith, e, F.count_max v)))
      go (i ∷ p) q e =
          let o = best_onward (act t) A K v d n inside x b i p q in
          let m : target (act t) v i < n = inside x i o.below o.usable in
          let a : l / 64 ≡ i = omega (arith, e, F.count_max v) in
          let z : l % 64 ≡ target (act t) v i = omega (arith, e, F.count_max v) in
          record { below = rw a o.below; there = rw z m; rest = q ∙ rw (a, z) (ap (λ (r : List ℕ). i ∷ r) (sym o.rest)) }

  module _ (c at : ℕ) (d₀ dd : List ℕ) (x e l : ℕ) (W : Walking t K v d c at d₀ dd x e l) where
    pub walking_end : l % 64 ≡ x → Put d₀ dd at (Path' c) (Some e)
    walking_end q =
        let z : Path' x ≡ [] = walk_stop x W.inside (ap (λ y. y % 64) (sym W.is_lead) ∙ q) in
        let zl : length (Path' x) ≡ 0 = ap length z in
        (omega (arith, W.counts), W.within, sym (W.so_far ∙ rw (z, append-nil) refl))

    module _ (ne : l % 64 ≡ x → ⊥) where
      pub walking_move : Move x l
      walking_move = walk_move x l W.inside W.is_lead ne

      pub walking_less : length (Path' (l % 64)) < length (Path' x)
      walking_less = let z : length (Path' x) ≡ suc (length (Path' (l % 64))) = ap length walking_move.rest in omega arith

      pub walking_long : length d₀ ≤ e → length d₀ < at + length (Path' c)
      walking_long h = omega (arith, W.counts, walking_less)

      pub walking_turn : e < length d₀ → (k : ℕ) → k ≡ lead_to t K v d (l % 64) → Walking t K v d c at d₀ (set dd e (l / 64)) (l % 64) (e + 1) k
      walking_turn h k ek =
          let b : e < length dd = omega (arith, W.long) in
          let z = walking_move.rest in
          let zl : length (Path' x) ≡ suc (length (Path' (l % 64))) = ap length z in
          record {
            within = omega arith;
            long = length-set dd e (l / 64) ∙ W.long;
            inside = walking_move.there;
            is_lead = ek;
            so_far = W.so_far ∙ rw (z, add-one, take-suc-set dd e (l / 64) b, append_assoc) refl;
            counts = omega (arith, W.counts);
          }
