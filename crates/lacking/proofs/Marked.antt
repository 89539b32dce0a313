-- Marks: after an action has marked its facts, marked are exactly those that a return of its move v = e may need: v = e itself,
-- and its own facts on other variables.
use mathlib.Core.Path.{◌≡◌, refl, sym, ◌∙◌, subst}
use mathlib.Core.Logic.{◌⊎◌, inl, inr, ◌≢◌}
use mathlib.Core.Bool.{Bool, true, false, ◌||◌}
use mathlib.Core.List.{List, [], ◌∷◌}
use Prim.Native.Nat.{ℕ, ◌+◌, ◌*◌, ◌/◌, ◌%◌, ◌<◌, ◌≤◌}
use native.Mathlib.Omega.{arith}
use native.Mathlib.Decide.{ℕ_discrete}
use borrow.Author.Tests.{eq-eqb, ne_eqb}
use lib.Dec.{T, eqb, eqb→eq, eqb_refl}
use lib.ListN.{length, get_or, set, replicate, length-set, length-replicate, get_or-replicate}
use lib.Seq.{get_or-set_same, get_or-set_other}
use Rattle.std.specs.Prelude.{Option, None, Some}
use Rattle.planning.specs.Record.{Fact, Task}
use Rattle.planning.specs.Runs.{State, has, variables, act, count}
use Rattle.laws.proofs.Tests.{or_l, or_r, or_cases}
use Rattle.laws.proofs.Facts.{has_here, has_there, has_nil, has_cases}
use Rattle.laws.proofs.Formed.{Formed, Sorted}
use Rattle.returns.specs.Returns.{place, mark_all, marked, Spans}
use Rattle.lacking.specs.Lacking.{Unmarked}
use Rattle.returns.proofs.Marks.{place_none, place_own, place_other, place_inside}

-- variables below n, values below 64
abbrev pub Small : ℕ → List Fact → Type 0
Small n [] = Unit {0}
Small n (g ∷ gs) = (g.var < n) × (g.val < 64) × Small n gs

-- facts of a formed task are small
pub sorted_small : (n : ℕ) (count : ℕ → ℕ) → ((v : ℕ) → count v ≤ 64) → (low : ℕ) (fs : List Fact) → Sorted n count low fs → Small n fs
sorted_small n count c low [] S = tt
sorted_small n count c low (f ∷ fs) S = (S.1, omega (arith, S.2, c f.var), sorted_small n count c (f.var + 1) fs S.3)

pub needs_small : (t : Task) → Formed t → (i : ℕ) → Small (variables t) (act t i).pre
needs_small t F i = sorted_small (variables t) (count t) F.count_max 0 (act t i).pre (F.pre_sorted i)

-- some fact of the list is marked at p
placed : Option ℕ → List Fact → ℕ → Bool
placed f [] p = false
placed f (g ∷ gs) p = eqb p (place f (64 * g.var + g.val)) || placed f gs p

module _ (t : Task) (i : ℕ) (f : Option ℕ) where
  unmarked_set : (marks : List ℕ) (p : ℕ) → p < 64 * variables t → Unmarked t (i + 1) marks → Unmarked t (i + 1) (set marks p i)
  unmarked_set marks p b U = record {
    long = rw (length-set marks p i) U.long;
    before = λ g h. go g h (ℕ_discrete g p);
  }
    where
      go : (g : ℕ) → g < 64 * variables t → Dec (g ≡ p) → (get_or (set marks p i) g 0 < i + 1) ⊎ (get_or (set marks p i) g 0 ≡ 65535)
      go g h (yes e) = inl (rw (e, get_or-set_same marks p i 0 (omega (arith, U.long))) (omega arith))
      go g h (no e) = rw (get_or-set_other marks p g i 0 e) (U.before g h)

  fact_placed : (g : Fact) → g.var < variables t → g.val < 64 → place f (64 * g.var + g.val) < 64 * variables t
  fact_placed g a b = place_inside (variables t) f (64 * g.var + g.val) (omega arith)

  pub unmarked_all : (fs : List Fact) (marks : List ℕ) → Small (variables t) fs → Unmarked t (i + 1) marks → Unmarked t (i + 1) (mark_all i f fs marks)
  unfolding mark_all
  unmarked_all [] marks S U = U
  unmarked_all (g ∷ gs) marks S U = unmarked_all gs (set marks (place f (64 * g.var + g.val)) i) S.2
      (unmarked_set marks (place f (64 * g.var + g.val)) (fact_placed g S.0 S.1) U)

  marks_at_lem : (fs : List Fact) (marks : List ℕ) → Small (variables t) fs → Spans t marks → (p : ℕ) → eqb (get_or (mark_all i f fs marks) p 0) i ≡ (placed f fs p || eqb (get_or marks p 0) i)
  unfolding mark_all placed
  marks_at_lem [] marks S n p = refl
  marks_at_lem (g ∷ gs) marks S n p =
      marks_at_lem gs (set marks q i) S.2 (rw (length-set marks q i) n) p ∙ go (ℕ_discrete p q)
    where
      q : ℕ
      q = place f (64 * g.var + g.val)

      hit : (x y z : Bool) → x ≡ true → (y || x) ≡ ((true || y) || z)
      hit x true z e = refl
      hit x false z e = e

      go : Dec (p ≡ q) → (placed f gs p || eqb (get_or (set marks q i) p 0) i) ≡ ((eqb p q || placed f gs p) || eqb (get_or marks p 0) i)
      go (yes e) =
          let b : q < length marks = omega (arith, n, fact_placed g S.0 S.1) in
          rw (e, get_or-set_same marks q i 0 b, eq-eqb q q refl) (hit (eqb i i) (placed f gs q) (eqb (get_or marks q 0) i) (eq-eqb i i refl))
      go (no e) = rw (ne_eqb p q e, get_or-set_other marks q p i 0 e) refl

-- what is marked
module _ (f : Option ℕ) where
  placed_elim : (fs : List Fact) (p : ℕ) → T (placed f fs p) → (u : ℕ) × (x : ℕ) × T (has fs u x) × (p ≡ place f (64 * u + x))
  unfolding placed
  placed_elim [] p h = absurd h
  placed_elim (g ∷ gs) p h = go (or_cases (eqb p (place f (64 * g.var + g.val))) (placed f gs p) h) (placed_elim gs p)
    where
      go : T (eqb p (place f (64 * g.var + g.val))) ⊎ T (placed f gs p)
          → (T (placed f gs p) → (u : ℕ) × (x : ℕ) × T (has gs u x) × (p ≡ place f (64 * u + x))) → (u : ℕ) × (x : ℕ) × T (has (g ∷ gs) u x) × (p ≡ place f (64 * u + x))
      go (inl e) k = (g.var, g.val, has_here g gs, eqb→eq p (place f (64 * g.var + g.val)) e)
      go (inr e) k = let r = k e in (r.0, r.1, has_there g gs r.0 r.1 r.2, r.3)

  placed_intro : (fs : List Fact) (u x : ℕ) → T (has fs u x) → T (placed f fs (place f (64 * u + x)))
  unfolding placed
  placed_intro [] u x h = absurd (has_nil u x h)
  placed_intro (g ∷ gs) u x h = go (has_cases g gs u x h) (placed_intro gs u x)
    where
      go : ((u ≡ g.var) × (x ≡ g.val)) ⊎ T (has gs u x) → (T (has gs u x) → T (placed f gs (place f (64 * u + x))))
          → T (eqb (place f (64 * u + x)) (place f (64 * g.var + g.val)) || placed f gs (place f (64 * u + x)))
      go (inl e) k =
          let q : ℕ = place f (64 * g.var + g.val) in
          rw (e.0, e.1) (or_l (eqb q q) (placed f gs q) (eqb_refl q))
      go (inr e) k = or_r (eqb (place f (64 * u + x)) (place f (64 * g.var + g.val))) (placed f gs (place f (64 * u + x))) (k e)

small_has : (n : ℕ) (fs : List Fact) → Small n fs → (u x : ℕ) → T (has fs u x) → (u < n) × (x < 64)
small_has n [] S u x h = absurd (has_nil u x h)
small_has n (g ∷ gs) S u x h = elim (has_cases g gs u x h) [ inl e ↦ (omega (arith, S.0, e.0), omega (arith, S.1, e.1)) | inr k ↦ small_has n gs S.2 u x k ]

-- the facts of n variables that a return may need: m is the set of marked facts, fs are the facts of the action, v = e is its move
pub record Allows (n v e : ℕ) (fs : List Fact) (m : State) : Type 0 where
  pub own : T (m v e)
  pub only : (x : ℕ) → x < 64 → T (m v x) → x ≡ e
  pub other : (u x : ℕ) → u ≢ v → T (has fs u x) → T (m u x)
  pub others : (u x : ℕ) → u < n → x < 64 → u ≢ v → T (m u x) → T (has fs u x)

-- the variable u is not that of the move
abbrev Apart : Option ℕ → ℕ → Type 0
Apart o u = (f : ℕ) → o ≡ Some f → u ≢ f / 64

-- the facts of such a variable are marked where they stand
place_back : (o : Option ℕ) (u x g : ℕ) → x < 64 → Apart o u → 64 * u + x ≡ place o g → g ≡ 64 * u + x
place_back None u x g b a e = sym (e ∙ place_none g)
place_back (Some f) u x g b a e = go (ℕ_discrete (g / 64) (f / 64))
  where
    go : Dec (g / 64 ≡ f / 64) → g ≡ 64 * u + x
    go (yes y) = absurd (a f refl (omega (arith, place_own f g y)))
    go (no n) = omega (arith, place_other f g n)

module _ (t : Task) (i : ℕ) (fs : List Fact) (marks : List ℕ) (S : Small (variables t) fs) (b : i < 65535) (U : Unmarked t i marks) where
  -- nothing was marked i before
  fresh : (p : ℕ) → p < 64 * variables t → T (eqb (get_or marks p 0) i) → ⊥
  fresh p c t = let q = eqb→eq (get_or marks p 0) i t in elim (U.before p c) [ inl k ↦ omega arith | inr k ↦ omega arith ]

  find : (o : Option ℕ) (u x : ℕ) → u < variables t → x < 64 → T (marked i (mark_all i o fs marks) u x) → T (placed o fs (64 * u + x))
  unfolding marked
  find o u x ub xb m = elim (or_cases (placed o fs (64 * u + x)) (eqb (get_or marks (64 * u + x) 0) i) (subst T (marks_at_lem t i o fs marks S U.long (64 * u + x)) m)) [
    | inl k ↦ k
    | inr k ↦ absurd (fresh (64 * u + x) (omega arith) k)
  ]

  -- on variables other than that of the move the facts themselves are marked
  pub marks_others : (o : Option ℕ) (u x : ℕ) → u < variables t → x < 64 → Apart o u → T (marked i (mark_all i o fs marks) u x) → T (has fs u x)
  marks_others o u x ub c a m =
      let r = placed_elim o fs (64 * u + x) (find o u x ub c m) in
      let b = small_has (variables t) fs S r.0 r.1 r.2 in
      let e = place_back o u x (64 * r.0 + r.1) c a r.3 in
      let p : r.0 ≡ u = omega (arith, b.1) in
      let q : r.1 ≡ x = omega (arith, b.1) in
      subst (λ (z : ℕ). T (has fs u z)) q (subst (λ (z : ℕ). T (has fs z r.1)) p r.2)

  pub marks_allow : (f : ℕ) → T (has fs (f / 64) (f % 64)) → Allows (variables t) (f / 64) (f % 64) fs (marked i (mark_all i (Some f) fs marks))
  unfolding marked
  marks_allow f h = record {
    own = mark_of (f / 64) (f % 64) (subst (λ (p : ℕ). T (placed (Some f) fs p)) own_place (placed_intro (Some f) fs (f / 64) (f % 64) h));
    only = λ x c m. only_own x c (find (Some f) (f / 64) x (small_has (variables t) fs S (f / 64) (f % 64) h).0 c m);
    other = λ u x n g. mark_of u x (subst (λ (p : ℕ). T (placed (Some f) fs p)) (place_other f (64 * u + x) (λ e. n (away u x (small_has (variables t) fs S u x g).1 e))) (placed_intro (Some f) fs u x g));
    others = λ u x ub c n m. marks_others (Some f) u x ub c (λ g e. let z : f ≡ g = cc in rw (← z) n) m;
  }
    where
      own_place : place (Some f) (64 * (f / 64) + f % 64) ≡ 64 * (f / 64) + f % 64
      own_place = let q : 64 * (f / 64) + f % 64 ≡ f = omega arith in rw q (place_own f f refl)

      away : (u x : ℕ) → x < 64 → (64 * u + x) / 64 ≡ f / 64 → u ≡ f / 64
      away u x c e = omega arith

      mark_of : (u x : ℕ) → T (placed (Some f) fs (64 * u + x)) → T (eqb (get_or (mark_all i (Some f) fs marks) (64 * u + x) 0) i)
      mark_of u x m = subst T (sym (marks_at_lem t i (Some f) fs marks S U.long (64 * u + x))) (or_l (placed (Some f) fs (64 * u + x)) (eqb (get_or marks (64 * u + x) 0) i) m)

      only_own : (x : ℕ) → x < 64 → T (placed (Some f) fs (64 * (f / 64) + x)) → x ≡ f % 64
      only_own x c m = go (placed_elim (Some f) fs (64 * (f / 64) + x) m)
        where
          go : (u : ℕ) × (y : ℕ) × T (has fs u y) × (64 * (f / 64) + x ≡ place (Some f) (64 * u + y)) → x ≡ f % 64
          go r = pick (ℕ_discrete ((64 * r.0 + r.1) / 64) (f / 64))
            where
              pick : Dec ((64 * r.0 + r.1) / 64 ≡ f / 64) → x ≡ f % 64
              pick (yes e) = omega (arith, r.3, place_own f (64 * r.0 + r.1) e)
              pick (no e) = absurd (e (omega (arith, r.3, place_other f (64 * r.0 + r.1) e)))

-- at the start nothing is marked
pub unmarked_start : (t : Task) (n : ℕ) → 64 * variables t ≤ n → Unmarked t 0 (replicate n 65535)
unmarked_start t n b = record {
  long = rw (length-replicate {A = ℕ} n 65535) b;
  before = λ g h. inr (get_or-replicate {A = ℕ} n g 65535 0 (omega arith));
}

pub unmarked_more : (t : Task) (i k : ℕ) (marks : List ℕ) → Unmarked t i marks → i ≤ k → Unmarked t k marks
unmarked_more t i k marks U l = record { long = U.long; before = λ g h. elim (U.before g h) [ inl q ↦ inl (omega arith) | inr q ↦ inr q ] }
