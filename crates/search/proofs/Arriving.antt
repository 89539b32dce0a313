-- The walk along one chain: what the actions of it before the present one give is noted. At the start these are none, and each turn adds
-- one, since the chain leaves no action out that changes v to x.
use mathlib.Core.Path.{◌≡◌, refl, sym, ◌∙◌, subst}
use mathlib.Core.Logic.{◌⊎◌, inl, inr}
use mathlib.Core.Bool.{Bool, true, false, ◌&&◌}
use mathlib.Core.List.{List}
use Prim.Native.Nat.{ℕ, ◌+◌, ◌*◌, ◌<◌, ◌≤◌, min}
use native.Mathlib.Omega.{arith}
use native.Mathlib.Nat.{min-eq_left, min-eq_right}
use native.Mathlib.Decide.{ℕ_discrete, dec_lt}
use lib.Bits.{bit_or}
use lib.Dec.{T}
use lib.ListN.{length, get_or}
use Rattle.planning.specs.Record.{Task}
use Rattle.planning.specs.Runs.{variables, State, actions, act, black}
use Rattle.planning.specs.Painting.{target}
use Rattle.planning.specs.Repair.{usable_arc}
use Rattle.laws.proofs.Tests.{or_l, or_r, or_cases, and_l, and_r, and_i}
use Rattle.laws.proofs.Formed.{Formed}
use Rattle.laws.proofs.Painting.{black_inside}
use Rattle.task.specs.Task.{task_in}
use Rattle.task.specs.Links.{Next, Changes, Prepared, head_at, next_at}
use Rattle.sets.specs.Sets.{in_set}
use Rattle.sets.proofs.Members.{in_set_or}
use Rattle.labels.specs.Labels.{lower}
use Rattle.search.specs.Search.{source_of, through, Into, Lowered}
use Rattle.search.proofs.UsableArcs.{arc_changes, arc_target, arc_is, arc_fits}

-- one label more is noted
module _ (rest : ℕ) (D D' : ℕ → ℕ → Type 0) (old new new' : List ℕ) (front grow set l : ℕ) (M : Lowered D rest old new front grow) (long : length new' ≡ 64)
    (law : (c : ℕ) → c < 64 → get_or new' c 0 ≡ lower (in_set set c) l (get_or new c 0))
    (add : (c : ℕ) → T (in_set set c) → T (in_set rest c) × D' c l)
    (fresh : (c m : ℕ) → T (in_set rest c) → D' c m → D c m ⊎ ((m ≡ l) × T (in_set set c)))
    (stays : (c m : ℕ) → D c m → D' c m) where
  lower_le : (b : Bool) (x : ℕ) → lower b l x ≤ x
  unfolding lower
  lower_le true x = omega arith
  lower_le false x = omega arith

  lower_set : (b : Bool) (x : ℕ) → T b → lower b l x ≤ l
  unfolding lower
  lower_set true x h = omega arith
  lower_set false x h = absurd h

  lower_is : (b : Bool) (x : ℕ) → (lower b l x ≡ x) ⊎ (T b × (lower b l x ≡ l))
  unfolding lower
  lower_is false x = inl refl
  lower_is true x = go (dec_lt l x)
    where
      go : Dec (l < x) → (min l x ≡ x) ⊎ (T true × (min l x ≡ l))
      go (yes h) = inr (tt, min-eq_left {n = l} {m = x} (omega arith))
      go (no h) = inl (min-eq_right {n = x} {m = l} (omega arith))

  pub lowered_turn : Lowered D' rest old new' front (bit_or grow set)
  lowered_turn = record {
    long = long;
    below = λ c b. omega (arith, law c b, lower_le (in_set set c) (get_or new c 0), M.below c b);
    least = λ c m b r d. elim (fresh c m r d) [
      | inl e ↦ omega (arith, law c b, lower_le (in_set set c) (get_or new c 0), M.least c m b r e)
      | inr e ↦ omega (arith, law c b, lower_set (in_set set c) (get_or new c 0) e.1, e.0)
    ];
    found = λ c b. elim (lower_is (in_set set c) (get_or new c 0)) [
      | inl e ↦ let q : get_or new' c 0 ≡ get_or new c 0 = law c b ∙ e in elim (M.found c b) [ inl z ↦ inl (q ∙ z) | inr z ↦ inr (z.0, rw q (stays c (get_or new c 0) z.1)) ]
      | inr e ↦ let q : get_or new' c 0 ≡ l = law c b ∙ e.1 in let a = add c e.0 in inr (a.0, rw q a.1)
    ];
    kept = λ c h. rw in_set_or (or_l (in_set grow c) (in_set set c) (M.kept c h));
    grows = λ c m b r d. rw in_set_or (elim (fresh c m r d) [
      | inl e ↦ or_l (in_set grow c) (in_set set c) (M.grows c m b r e)
      | inr e ↦ or_r (in_set grow c) (in_set set c) e.1
    ]);
    grown = λ c b h. elim (or_cases (in_set grow c) (in_set set c) (rw in_set_or at h)) [
      | inl g ↦ elim (M.grown c b g) [ inl z ↦ inl z | inr z ↦ inr (z.0, (z.1.0, stays c z.1.0 z.1.1)) ]
      | inr s ↦ let a = add c s in inr (a.0, (l, a.1))
    ];
  }

lowered_map : (rest : ℕ) (D D' : ℕ → ℕ → Type 0) (old new : List ℕ) (front grow : ℕ) → ((c m : ℕ) → D c m → D' c m) → ((c m : ℕ) → D' c m → D c m)
    → Lowered D rest old new front grow → Lowered D' rest old new front grow
lowered_map rest D D' old new front grow f g M = record {
  long = M.long;
  below = M.below;
  least = λ c m b r d. M.least c m b r (g c m d);
  found = λ c b. elim (M.found c b) [ inl z ↦ inl z | inr z ↦ inr (z.0, f c (get_or new c 0) z.1) ];
  kept = M.kept;
  grows = λ c m b r d. M.grows c m b r (g c m d);
  grown = λ c b h. elim (M.grown c b h) [ inl z ↦ inl z | inr z ↦ inr (z.0, (z.1.0, f c z.1.0 z.1.1)) ];
}

-- labels by the actions before i
abbrev pub Before : Task → State → ℕ → ℕ → ℕ → ℕ → ℕ → ℕ → Type 0
Before t K v x key i c m = (j : ℕ) × (j < i) × (j < actions t) × T (usable_arc (act t) K v c j) × (target (act t) v j ≡ x) × (m ≡ through key (act t j).cost j x)

pub record Arriving (t : Task) (K : State) (v x key rest front : ℕ) (old new : List ℕ) (grow i : ℕ) : Type 0 where
  pub here : (i ≡ 65535) ⊎ ((i < actions t) × Changes t v x i)
  pub noted : Lowered (Before t K v x key i) rest old new front grow

-- the chain that is walked: actions that change v to x, a value outside the set rest
pub record Chain (task : List ℕ) (v x rest : ℕ) : Type 0 where
  pub prepared : Prepared task
  pub painted : T (black (task_in task) v)
  pub near : x < 64
  pub outside : T (in_set rest x) → ⊥

module _ (task : List ℕ) (v x rest : ℕ) (H : Chain task v x rest) where
  abbrev t : Task
  t = task_in task

  F : Formed t
  F = H.prepared.loaded.formed

  next_here : (a y : ℕ) → Next (actions t) (Changes t v x) a y → (y ≡ 65535) ⊎ ((y < actions t) × Changes t v x y)
  next_here a y N = elim N.found [ inl q ↦ inl q | inr q ↦ inr (q.1, q.2) ]

  pub chain_place : 64 * v + x < 4096
  chain_place = omega (arith, H.near, black_inside t v H.painted, F.variables_max)

  -- a head is there for it
  pub chain_inside : 64 * v + x < 64 * variables t
  chain_inside = omega (arith, H.near, black_inside t v H.painted)

  chain_head : Next (actions t) (Changes t v x) 0 (head_at task (64 * v + x))
  chain_head = H.prepared.chained.heads v x (omega (arith, black_inside t v H.painted, F.variables_max)) H.near H.painted

  -- an arc into x is by an action of the chain
  arc_in : (K : State) (c j : ℕ) → j < actions t → T (usable_arc (act t) K v c j) → target (act t) v j ≡ x → Changes t v x j
  arc_in K c j b u e = subst (λ y. Changes t v y j) e (arc_changes t F K v c j b u)

  pub arriving_start : (K : State) (labels : List ℕ) (key front i : ℕ) → length labels ≡ 64 → i ≡ head_at task (64 * v + x) → Arriving t K v x key rest front labels labels front i
  arriving_start K labels key front i long q = record {
    here = next_here 0 i N;
    noted = record {
      long = long;
      below = λ c b. omega arith;
      least = λ c m b r d. absurd (no c m d);
      found = λ c b. inl refl;
      kept = λ c h. h;
      grows = λ c m b r d. absurd (no c m d);
      grown = λ c b h. inl h;
    };
  }
    where
      N : Next (actions t) (Changes t v x) 0 i
      N = rw q chain_head

      no : (c m : ℕ) → Before t K v x key i c m → ⊥
      no c m (j, l, b, u, e, _) = N.least j (omega arith) b l (arc_in K c j b u e)

  module _ (K : State) (key front : ℕ) (old new : List ℕ) (grow i : ℕ) (G : Arriving t K v x key rest front old new grow i) where
    pub arriving_here : i < 1024 → (i < actions t) × Changes t v x i
    arriving_here h = elim G.here [ inl q ↦ absurd (omega arith) | inr q ↦ q ]

    chain_next : i < 1024 → Next (actions t) (Changes t v x) (i + 1) (next_at task i)
    chain_next h = let q = arriving_here h in H.prepared.chained.links v x i H.painted q.0 q.1

    pub arriving_above : i < 1024 → (y : ℕ) → y ≡ next_at task i → i < y
    arriving_above h y q = rw q (elim (chain_next h).found [ inl z ↦ omega arith | inr z ↦ let a = z.0 in omega arith ])

    pub arriving_turn : i < 1024 → (set l y : ℕ) (new' : List ℕ) → length new' ≡ 64
        → ((c : ℕ) → in_set set c ≡ (in_set rest c && source_of t K v i c)) → l ≡ through key (act t i).cost i x
        → ((c : ℕ) → c < 64 → get_or new' c 0 ≡ lower (in_set set c) l (get_or new c 0)) → y ≡ next_at task i
        → Arriving t K v x key rest front old new' (bit_or grow set) y
    unfolding source_of
    arriving_turn h set l y new' long law el low ey =
        let q = arriving_here h in
        record {
          here = next_here (i + 1) y N;
          noted = lowered_turn rest (Before t K v x key i) (Before t K v x key y) old new new' front grow set l G.noted long low
              (λ c s.
              let r = and_l (in_set rest c) (source_of t K v i c) (rw (law c) at s) in
              let u = arc_is t F K v c x i q.1 (λ z. H.outside (subst (λ y. T (in_set rest y)) z r)) (and_r (in_set rest c) (source_of t K v i c) (rw (law c) at s)) in
              (r, (i, above, q.0, u, arc_target t F K v c i x q.0 u q.1, el)))
              (λ c m r d. split c m r d (ℕ_discrete d.0 i) (dec_lt d.0 i))
              (λ c m d. (d.0, omega (arith, d.1, above), d.2, d.3, d.4, d.5));
        }
      where
        N : Next (actions t) (Changes t v x) (i + 1) y
        N = rw ey (chain_next h)

        above : i < y
        above = arriving_above h y ey

        split : (c m : ℕ) → T (in_set rest c) → (d : Before t K v x key y c m) → Dec (d.0 ≡ i) → Dec (d.0 < i) → Before t K v x key i c m ⊎ ((m ≡ l) × T (in_set set c))
        split c m r (j, b, jb, u, e, w) (yes z) _ =
            let uz : T (usable_arc (act t) K v c i) = subst (λ y. T (usable_arc (act t) K v c y)) z u in
            inr (w ∙ subst (λ y. through key (act t y).cost y x ≡ l) (sym z) (sym el), rw (law c) (and_i (in_set rest c) (source_of t K v i c) r (arc_fits t F K v c i uz)))
        split c m r (j, b, jb, u, e, w) (no z) (yes a) = inl (j, a, jb, u, e, w)
        split c m r (j, b, jb, u, e, w) (no z) (no a) = absurd (N.least j (omega arith) jb b (arc_in K c j jb u e))

    pub arriving_end : 1024 ≤ i → Lowered (Into t K v x key) rest old new front grow
    arriving_end h = lowered_map rest (Before t K v x key i) (Into t K v x key) old new front grow
        (λ c m d. (d.0, d.2, d.3, d.4, d.5))
        (λ c m d. (d.0, omega (arith, d.1, last, F.actions_max), d.1, d.2, d.3, d.4))
        G.noted
      where
        last : i ≡ 65535
        last = elim G.here [ inl q ↦ q | inr q ↦ absurd (omega (arith, q.0, F.actions_max)) ]
