-- Cycles by ways through ever more nodes: `via s k` are the ways along arcs of s whose inner nodes are below k. One node more is
-- one pass over the rows (`through`), in place, since row k stays as it is. With every node allowed the ways are closed under
-- composition (via_closed), so that a node has a way to itself exactly if it lies on a cycle.
use mathlib.Core.Path.{◌≡◌, refl, sym, ap, ◌∙◌, fun_ext, subst}
use mathlib.Core.Logic.{◌⊎◌, inl, inr}
use mathlib.Core.Bool.{Bool, true, false, ◌&&◌, ◌||◌, or-false}
use mathlib.Core.List.{List}
use Prim.Native.Nat.{ℕ, zero, suc, pred, ◌+◌, ◌<◌, ◌≤◌}
use native.Mathlib.Numerals.{add-one}
use native.Mathlib.Omega.{arith}
use native.Mathlib.Decide.{ℕ_discrete, dec_lt}
use lib.Bits.{bit_or}
use lib.Dec.{T}
use lib.ListN.{length, get_or, set, length-set}
use lib.Seq.{get_or-set_same, get_or-set_other}
use Rattle.planning.specs.Basics.{some_below, first, reach}
use Rattle.planning.specs.Record.{Task}
use Rattle.planning.specs.Runs.{variables}
use Rattle.planning.specs.Painting.{black_arc, on_cycle, cyclic}
use Rattle.laws.proofs.Tests.{T→true, true→T, F→false, bool_same, or_l, or_r, or_cases, and_l, and_r, and_i}
use Rattle.laws.proofs.Below.{below_cases, some_intro, some_elim, first_same}
use Rattle.laws.proofs.Graph.{reach_here, reach_move, reach_cases, reach_zero, reach_bound}
use Rattle.laws.proofs.Painting.{black_inside}
use Rattle.sets.specs.Sets.{in_set, sets_of, mode_of}
use Rattle.sets.proofs.Members.{in_set_or}
use Rattle.graph.specs.Graph.{Rows}
use Rattle.cycles.specs.Cycles.{through, via, StartBelow}

-- one row
pub extended_row : (row k onward : ℕ) → in_set row k ≡ true → mode_of (bit_or row onward) ≡ (λ v. in_set row v || (in_set row k && in_set onward v))
unfolding mode_of
extended_row row k onward e = fun_ext (λ v. rw e (in_set_or row onward v))

pub same_row : (row k onward : ℕ) → in_set row k ≡ false → mode_of row ≡ (λ v. in_set row v || (in_set row k && in_set onward v))
unfolding mode_of
same_row row k onward e = fun_ext (λ v. rw e (sym (or-false (in_set row v))))

-- one pass: the rows below u are extended, the others are as they were, and so is row k
pub record Joining (n k : ℕ) (rows₀ : List ℕ) (onward : ℕ) (rows : List ℕ) (u : ℕ) : Type 0 where
  pub within : u ≤ n
  pub long : length rows ≡ 64
  pub is_row : onward ≡ get_or rows₀ k 0
  pub done : (x v : ℕ) → x < u → sets_of rows x v ≡ through k (sets_of rows₀) x v
  pub left : (x : ℕ) → u ≤ x → get_or rows x 0 ≡ get_or rows₀ x 0

module _ (n k : ℕ) (rows₀ : List ℕ) (b : n ≤ 64) (S : StartBelow n (sets_of rows₀)) where
  module _ (onward : ℕ) (rows : List ℕ) (u : ℕ) (J : Joining n k rows₀ onward rows u) where
    pub joining_turn : u < n → (w : ℕ) → mode_of w ≡ (λ v. in_set (get_or rows u 0) v || (in_set (get_or rows u 0) k && in_set onward v)) → Joining n k rows₀ onward (set rows u w) (u + 1)
    unfolding mode_of sets_of through
    joining_turn h w e = record {
      within = omega arith;
      long = length-set rows u w ∙ J.long;
      is_row = J.is_row;
      done = λ x v l. go x v l (ℕ_discrete x u);
      left = λ x l. get_or-set_other rows u x w 0 (λ q. omega arith) ∙ J.left x (omega arith);
    }
      where
        go : (x v : ℕ) → x < u + 1 → Dec (x ≡ u) → in_set (get_or (set rows u w) x 0) v ≡ (in_set (get_or rows₀ x 0) v || (in_set (get_or rows₀ x 0) k && in_set (get_or rows₀ k 0) v))
        go x v l (yes q) =
            rw (q, get_or-set_same rows u w 0 (omega (arith, J.long))) (ap (λ (g : ℕ → Bool). g v) e ∙ rw (J.left u (omega arith), J.is_row) refl)
        go x v l (no q) = rw (get_or-set_other rows u x w 0 q) (J.done x v (omega arith))

    pub joining_end : n ≤ u → sets_of rows ≡ through k (sets_of rows₀)
    unfolding sets_of through
    joining_end h = fun_ext (λ x. fun_ext (λ v. go x v (dec_lt x u)))
      where
        no_arc : (x v : ℕ) → n ≤ x → in_set (get_or rows₀ x 0) v ≡ false
        no_arc x v l = F→false (in_set (get_or rows₀ x 0) v) (λ t. omega (arith, S x v (T→true (in_set (get_or rows₀ x 0) v) t)))

        go : (x v : ℕ) → Dec (x < u) → in_set (get_or rows x 0) v ≡ (in_set (get_or rows₀ x 0) v || (in_set (get_or rows₀ x 0) k && in_set (get_or rows₀ k 0) v))
        go x v (yes l) = J.done x v l
        go x v (no l) = rw (J.left x (omega arith), no_arc x k (omega arith)) (sym (or-false (in_set (get_or rows₀ x 0) v)))

-- ways start where arcs start
through_starts : (n k : ℕ) (s : ℕ → ℕ → Bool) → StartBelow n s → StartBelow n (through k s)
unfolding through
through_starts n k s S u v e = elim (or_cases (s u v) (s u k && s k v) (true→T (s u v || (s u k && s k v)) e)) [
  | inl t ↦ S u v (T→true (s u v) t)
  | inr t ↦ S u k (T→true (s u k) (and_l (s u k) (s k v) t))
]

-- all passes
pub record Closing (n : ℕ) (rows₀ rows : List ℕ) (k : ℕ) : Type 0 where
  pub within : k ≤ n
  pub long : length rows ≡ 64
  pub starts : StartBelow n (sets_of rows)
  pub ways : sets_of rows ≡ via (sets_of rows₀) k

module _ (n : ℕ) (rows₀ : List ℕ) where
  pub closing_start : length rows₀ ≡ 64 → StartBelow n (sets_of rows₀) → Closing n rows₀ rows₀ 0
  unfolding via
  closing_start l S = record { within = omega arith; long = l; starts = S; ways = refl }

  pub closing_turn : (rows : List ℕ) (k : ℕ) → Closing n rows₀ rows k → k < n → (rows' : List ℕ) → Rows rows' (through k (sets_of rows)) → Closing n rows₀ rows' (k + 1)
  unfolding via
  closing_turn rows k C h rows' e = record {
    within = omega arith;
    long = e.long;
    starts = subst (StartBelow n) (sym e.states) (through_starts n k (sets_of rows) C.starts);
    ways = rw add-one (e.states ∙ ap (through k) C.ways);
  }

-- ways and reachability
module _ (s : ℕ → ℕ → Bool) where
  via_cases : (k u v : ℕ) → T (via s (suc k) u v) → T (via s k u v) ⊎ (T (via s k u k) × T (via s k k v))
  unfolding via through
  via_cases k u v t = elim (or_cases (via s k u v) (via s k u k && via s k k v) t) [
    | inl h ↦ inl h
    | inr h ↦ inr (and_l (via s k u k) (via s k k v) h, and_r (via s k u k) (via s k k v) h)
  ]

  via_keeps : (k u v : ℕ) → T (via s k u v) → T (via s (suc k) u v)
  unfolding via through
  via_keeps k u v t = or_l (via s k u v) (via s k u k && via s k k v) t

  via_joins : (k u v : ℕ) → T (via s k u k) → T (via s k k v) → T (via s (suc k) u v)
  unfolding via through
  via_joins k u v a b = or_r (via s k u v) (via s k u k && via s k k v) (and_i (via s k u k) (via s k k v) a b)

  via_arc : (k u v : ℕ) → T (s u v) → T (via s k u v)
  unfolding via
  via_arc zero u v t = t
  via_arc (suc k) u v t = via_keeps k u v (via_arc k u v t)

  to_last : (k u : ℕ) → T (via s (suc k) u k) → T (via s k u k)
  to_last k u t = elim (via_cases k u k t) [ inl h ↦ h | inr h ↦ h.0 ]

  from_last : (k v : ℕ) → T (via s (suc k) k v) → T (via s k k v)
  from_last k v t = elim (via_cases k k v t) [ inl h ↦ h | inr h ↦ h.1 ]

  -- composition at a node that is allowed
  via_closed : (k m u v : ℕ) → m < k → T (via s k u m) → T (via s k m v) → T (via s k u v)
  via_closed zero m u v h a b = absurd (omega arith)
  via_closed (suc k) m u v h a b = elim (below_cases m k h) [
    | inl l ↦ inner l (via_cases k u m a) (via_cases k m v b) (λ u v. via_closed k m u v l)
    | inr e ↦ via_joins k u v (to_last k u (rw e at a)) (from_last k v (rw e at b))
  ]
    where
      inner : m < k → T (via s k u m) ⊎ (T (via s k u k) × T (via s k k m)) → T (via s k m v) ⊎ (T (via s k m k) × T (via s k k v))
          → ((u v : ℕ) → T (via s k u m) → T (via s k m v) → T (via s k u v)) → T (via s (suc k) u v)
      inner l (inl p) (inl q) f = via_keeps k u v (f u v p q)
      inner l (inl p) (inr q) f = via_joins k u v (f u k p q.0) q.1
      inner l (inr p) (inl q) f = via_joins k u v p.0 (f k v p.1 q)
      inner l (inr p) (inr q) f = via_joins k u v p.0 q.1

  module _ (n : ℕ) (ends : (u v : ℕ) → T (s u v) → v < n) where
    -- a way is an arc and then moves
    moves_on : (j u w v : ℕ) → u < n → T (s u w) → T (reach n s j w v) → (k x : ℕ) → T (reach n s k v x) → (m : ℕ) × T (reach n s m w x)
    moves_on zero u w v b a r k x t = (k, rw (reach_zero n s w v r) t)
    moves_on (suc j) u w v b a r k x t = go (reach_cases n s j w v r) (λ e g. moves_on j w e v (ends u w a) g)
      where
        go : (w ≡ v) ⊎ ((e : ℕ) × (e < n) × T (s w e) × T (reach n s j e v))
            → ((e : ℕ) → T (s w e) → T (reach n s j e v) → (k x : ℕ) → T (reach n s k v x) → (m : ℕ) × T (reach n s m e x)) → (m : ℕ) × T (reach n s m w x)
        go (inl e) f = (k, rw e t)
        go (inr r) f = let z = f r.0 r.2 r.3 k x t in (suc z.0, reach_move n s z.0 w r.0 x r.1 r.2 z.1)

    via_reach : (k u v : ℕ) → k ≤ n → u < n → T (via s k u v) → (w : ℕ) × (m : ℕ) × T (s u w) × T (reach n s m w v)
    unfolding via
    via_reach zero u v h b t = (v, 0, t, reach_here n s 0 v)
    via_reach (suc k) u v h b t = go (via_cases k u v t) (λ u v b. via_reach k u v (omega arith) b)
      where
        go : T (via s k u v) ⊎ (T (via s k u k) × T (via s k k v))
            → ((u v : ℕ) → u < n → T (via s k u v) → (w : ℕ) × (m : ℕ) × T (s u w) × T (reach n s m w v)) → (w : ℕ) × (m : ℕ) × T (s u w) × T (reach n s m w v)
        go (inl p) f = f u v b p
        go (inr p) f =
            let x = f u k b p.0 in
            let y = f k v (omega arith) p.1 in
            let z = moves_on x.1 u x.0 k b x.2 x.3 (suc y.1) v (reach_move n s y.1 k y.0 v (ends k y.0 y.2) y.2 y.3) in
            (x.0, z.0, x.2, z.1)

    reach_via : (j u w v : ℕ) → T (s u w) → T (reach n s j w v) → T (via s n u v)
    reach_via zero u w v a r = via_arc n u v (rw (reach_zero n s w v r) at a)
    reach_via (suc j) u w v a r = go (reach_cases n s j w v r) (λ e g q. reach_via j w e v g q)
      where
        go : (w ≡ v) ⊎ ((e : ℕ) × (e < n) × T (s w e) × T (reach n s j e v)) → ((e : ℕ) → T (s w e) → T (reach n s j e v) → T (via s n w v)) → T (via s n u v)
        go (inl e) f = via_arc n u v (rw e at a)
        go (inr r) f = via_closed n w u v (ends u w a) (via_arc n u w a) (f r.0 r.2 r.3)

    pub via_cycle : (v : ℕ) → v < n → via s n v v ≡ on_cycle n s v
    unfolding on_cycle
    via_cycle v b = bool_same (via s n v v) (some_below n (λ u. s v u && reach n s (pred n) u v)) there back
      where
        there : T (via s n v v) → T (some_below n (λ u. s v u && reach n s (pred n) u v))
        there t =
            let r = via_reach n v v (omega arith) b t in
            let w : ℕ = r.0 in
            let e : w < n = ends v w r.2 in
            some_intro n (λ u. s v u && reach n s (pred n) u v) w e (and_i (s v w) (reach n s (pred n) w v) r.2 (reach_bound n s v b (pred n) (omega arith) r.1 w e r.3))

        back : T (some_below n (λ u. s v u && reach n s (pred n) u v)) → T (via s n v v)
        back t =
            let r = some_elim n (λ u. s v u && reach n s (pred n) u v) t in
            reach_via (pred n) v r.0 v (and_l (s v r.0) (reach n s (pred n) r.0 v) r.2) (and_r (s v r.0) (reach n s (pred n) r.0 v) r.2)

-- the black causal graph
black_arc_ends : (t : Task) (u v : ℕ) → T (black_arc t u v) → (u < variables t) × (v < variables t)
unfolding black_arc
black_arc_ends t u v a = (black_inside t u (search (and_l, and_r)), black_inside t v (search (and_l, and_r)))

pub black_arc_starts : (t : Task) (n : ℕ) (rows : List ℕ) → sets_of rows ≡ black_arc t → n ≡ variables t → StartBelow n (sets_of rows)
black_arc_starts t n rows e q u v h = omega (arith, (black_arc_ends t u v (subst (λ (s : ℕ → ℕ → Bool). T (s u v)) e (true→T (sets_of rows u v) h))).0)

pub cycle_found : (t : Task) (n : ℕ) (rows ways : List ℕ) → sets_of rows ≡ black_arc t → n ≡ variables t → sets_of ways ≡ via (sets_of rows) n → first n (λ v. sets_of ways v v) ≡ cyclic t
unfolding cyclic
cycle_found t n rows ways e q w =
    rw (w, e, q) (first_same (variables t) (λ v. via (black_arc t) (variables t) v v) (on_cycle (variables t) (black_arc t)) (via_cycle (black_arc t) (variables t) (λ u v a. (black_arc_ends t u v a).1)))
