-- Why settled labels give the best paths. Along any path over settled values the keys fall by no more than its moves weigh, and a path that
-- comes to an open value weighs no less from there than any settled key says; so a settled value's key is at most the weight of every path from
-- there. Going by the leads gives a path of just that weight. As a best path has at most 63 moves, least weight is least cost and then fewest
-- moves. The lead is the smallest action that such a path starts with, since the label is the least over all arcs into settled values, and a
-- best path does not come to an open one.
use mathlib.Core.Path.{◌≡◌, refl, sym, ap, ◌∙◌, subst}
use mathlib.Core.Logic.{◌⊎◌, inl, inr, ◌≢◌}
use mathlib.Core.Bool.{Bool, true, false, not}
use mathlib.Core.List.{List, [], ◌∷◌}
use Prim.Native.Nat.{ℕ, zero, suc, ◌+◌, ◌*◌, ◌/◌, ◌%◌, ◌<◌, ◌≤◌}
use native.Mathlib.Omega.{arith}
use native.Mathlib.Decide.{ℕ_discrete, dec_lt}
use borrow.Author.Tests.{eq-eqb, ne_eqb}
use lib.Dec.{T, T_not}
use lib.ListN.{length, get_or}
use Rattle.planning.specs.Record.{Task}
use Rattle.planning.specs.Runs.{State, actions, count, act, cost_by}
use Rattle.planning.specs.Painting.{target}
use Rattle.planning.specs.Repair.{usable_arc, is_path}
use Rattle.laws.proofs.Tests.{T_cases}
use Rattle.laws.proofs.Formed.{Formed}
use Rattle.laws.proofs.Best.{Better, Best, arcs_inside, best_cases, best_of, best_short, best_onward, path_cons, path_uncons, path_nil, path_here}
use Rattle.sets.specs.Sets.{in_set}
use Rattle.search.specs.Search.{unreached, through, Into, Done, Settled}
use Rattle.paths.specs.Paths.{lead_of, lead_to, paths_of, unknown, lead_by}

-- the lead in a label
module _ (b : Bool) (l c : ℕ) where
  pub lead_open : b ≡ true → unknown c ≡ lead_by b l c
  unfolding lead_by
  lead_open e = rw e refl

  pub lead_none : b ≡ false → l ≡ unreached → c ≡ lead_by b l c
  unfolding lead_by
  lead_none e z = rw (e, eq-eqb l unreached z, lead_by) refl

  pub lead_some : b ≡ false → (l ≡ unreached → ⊥) → l % 65536 ≡ lead_by b l c
  unfolding lead_by
  lead_some e n = rw (e, ne_eqb l unreached n, lead_by) refl

div_le : (a m k : ℕ) → a ≤ m → m / 65536 ≤ k → a / 65536 ≤ k
div_le a m k h b = omega arith

module _ (t : Task) (F : Formed t) (K : State) (v d : ℕ) (db : d < count t v) (labels : List ℕ) (rest : ℕ) (S : Settled t K v d labels rest) where
  abbrev A : ℕ
  A = actions t

  abbrev n : ℕ
  n = count t v

  abbrev key : ℕ → ℕ
  key c = get_or labels c 0 / 65536

  abbrev Is : ℕ → List ℕ → Type 0
  Is c p = T (is_path (act t) A K v c d p)

  abbrev best : ℕ → List ℕ
  best c = paths_of t K v c d

  abbrev weight : List ℕ → ℕ
  weight p = 64 * cost_by (act t) p + length p

  inside : (c i : ℕ) → i < A → T (usable_arc (act t) K v c i) → target (act t) v i < n
  inside = arcs_inside t F K v

  small : (c : ℕ) → c < n → c < 64
  small c b = omega (arith, F.count_max v)

  -- a label by an arc
  through_below : (x i : ℕ) → x < n → i < A → get_or labels x 0 < unreached → through (key x) (act t i).cost i x < unreached
  unfolding through
  through_below x i xb b l = omega (arith, S.small x xb l, F.cost_below i, F.actions_max, small x xb)

  -- no path from c weighs less than its key or, if it is open, than the key of any settled value
  abbrev Above : ℕ → ℕ → Type 0
  Above c w = (Done rest c → (get_or labels c 0 < unreached) × (key c ≤ w)) × (T (in_set rest c) → (s : ℕ) → s < n → Done rest s → key s ≤ w)

  above : (c : ℕ) (q : List ℕ) → c < n → Is c q → Above c (weight q)
  unfolding cost_by through
  above c [] cb h =
      let e : c ≡ d = path_nil (act t) A K v d c h in
      let z : get_or labels c 0 ≡ d = rw e S.goal in
      (λ _. (omega (arith, small d db), omega (arith, small d db)), λ o. absurd (S.goal_done (rw e at o)))
  above c (i ∷ q) cb h = go (ℕ_discrete c d) (T_cases (in_set rest x)) (above x q (inside c i u.0 u.1) u.2)
    where
      u : (i < A) × T (usable_arc (act t) K v c i) × Is (target (act t) v i) q
      u = path_uncons (act t) A K v d c i q h

      x : ℕ
      x = target (act t) v i

      go : Dec (c ≡ d) → T (in_set rest x) ⊎ T (not (in_set rest x)) → Above x (weight q) → Above c (64 * ((act t i).cost + cost_by (act t) q) + suc (length q))
      go (yes e) _ r =
          let z : get_or labels c 0 ≡ d = rw e S.goal in
          (λ _. (omega (arith, small d db), omega (arith, small d db)), λ o. absurd (S.goal_done (rw e at o)))
      go (no e) (inl o) r = (λ f. (S.reached x c o cb f, omega (arith, r.1 o c cb f)), λ _ s sb f. omega (arith, r.1 o s sb f))
      go (no e) (inr o) r =
          let f : Done rest x = T_not (in_set rest x) o in
          let l = r.0 f in
          let m : ℕ = through (key x) (act t i).cost i x in
          let w : m < unreached = through_below x i (inside c i u.0 u.1) u.0 l.0 in
          let k : m / 65536 ≤ 64 * ((act t i).cost + cost_by (act t) q) + suc (length q) = omega (arith, F.actions_max, u.0, l.1, small x (inside c i u.0 u.1)) in
          let into : Into t K v x (key x) c m = (i, u.0, u.1, refl, refl) in (
            λ g. let a = S.least c x m cb e g f l.0 into in (omega (arith, a, w), div_le (get_or labels c 0) m _ a k),
            λ g s sb sf. div_le (get_or labels s 0) m _ (S.beyond c x m s g f l.0 into sb sf) k,
          )

  -- a path by the leads, which weighs what the key says; k is above the key
  record Lead (c : ℕ) : Type 0 where
    pub steps : List ℕ
    pub path : Is c steps
    pub weighs : weight steps ≡ key c

  led : (k c : ℕ) → c < n → Done rest c → key c < k → get_or labels c 0 < unreached → Lead c
  unfolding cost_by through
  led zero c cb o b l = absurd (omega arith)
  led (suc k) c cb o b l = go (ℕ_discrete c d) (led k)
    where
      go : Dec (c ≡ d) → ((x : ℕ) → x < n → Done rest x → key x < k → get_or labels x 0 < unreached → Lead x) → Lead c
      go (yes e) f = let z : get_or labels c 0 ≡ d = rw e S.goal in record { steps = []; path = subst (λ x. Is x []) (sym e) (path_here (act t) A K v d); weighs = omega (arith, small d db) }
      go (no e) f = elim (S.found c cb e o) [
        | inl z ↦ absurd (omega arith)
        | inr (x, xo, l, (i, ib, u, tx, m)) ↦
            let xb : x < n = rw (← tx) (inside c i ib u) in
            let r = f x xb xo (omega (arith, F.actions_max, small x xb)) l in
            record {
              steps = i ∷ r.steps;
              path = path_cons (act t) A K v d c i r.steps ib u (subst (λ z. Is z r.steps) (sym tx) r.path);
              weighs = omega (arith, r.weighs, F.actions_max, small x xb);
            }
      ]

  abbrev IsBest : ℕ → Type 0
  IsBest c = Best (act t) A K v d n inside c

  best_few : (c : ℕ) → length (best c) < 64
  best_few c = omega (arith, best_short (act t) A K v d n (omega arith) c, F.count_max v)

  -- the key is the weight of the best path
  best_weighs : (c : ℕ) → c < n → Done rest c → get_or labels c 0 < unreached → IsBest c × (weight (best c) ≡ key c)
  best_weighs c cb o l = (B, go (dec_lt (cost_by (act t) (best c)) (cost_by (act t) p)) (ℕ_discrete (cost_by (act t) p) (cost_by (act t) (best c))))
    where
      r : Lead c
      r = led (suc (key c)) c cb o (omega arith) l

      p : List ℕ
      p = r.steps

      B : IsBest c
      B = best_of (act t) A K v d n inside c cb p r.path

      low : key c ≤ weight (best c)
      low = ((above c (best c) cb B.path).0 o).1

      no_less : Better (act t) p (best c) → ⊥
      no_less = B.least p r.path

      go : Dec (cost_by (act t) (best c) < cost_by (act t) p) → Dec (cost_by (act t) p ≡ cost_by (act t) (best c)) → weight (best c) ≡ key c
      go (yes a) _ = absurd (omega (arith, low, r.weighs, best_few c))
      go (no a) (no e) = absurd (no_less (inl (omega arith)))
      go (no a) (yes e) =
          let s : ¬ (length p < length (best c)) = λ b. no_less (inr (e, inl b)) in
          omega (arith, low, r.weighs)

  -- from d the empty path
  best_here : best d ≡ []
  unfolding cost_by
  best_here = go (best d) refl (best_of (act t) A K v d n inside d db [] (path_here (act t) A K v d))
    where
      go : (p : List ℕ) → best d ≡ p → IsBest d → p ≡ []
      go [] e B = refl
      go (i ∷ p) e B = absurd (B.least [] (path_here (act t) A K v d) (rw e (costs (ℕ_discrete 0 (cost_by (act t) (i ∷ p))))))
        where
          costs : Dec (0 ≡ cost_by (act t) (i ∷ p)) → Better (act t) [] (i ∷ p)
          costs (yes z) = inr (z, inl (omega arith))
          costs (no z) = inl (omega arith)

  -- the first action of the best path, and the label's
  lead_same : (c : ℕ) → c < n → c ≢ d → Done rest c → (x i : ℕ) → Done rest x → get_or labels x 0 < unreached → i < A → T (usable_arc (act t) K v c i) → target (act t) v i ≡ x
      → get_or labels c 0 ≡ through (key x) (act t i).cost i x → (j : ℕ) (r : List ℕ) → best c ≡ j ∷ r → i ≡ j
  unfolding cost_by through
  lead_same c cb ne o x i xo xl ib u tx m j r e = go (dec_lt i j) (dec_lt j i)
    where
      xb : x < n
      xb = rw (← tx) (inside c i ib u)

      cl : get_or labels c 0 < unreached
      cl = rw m (through_below x i xb ib xl)

      O : (j < A) × T (usable_arc (act t) K v c j) × (best (target (act t) v j) ≡ r)
      O = let o = best_onward (act t) A K v d n inside c cb j r e in (o.below, o.usable, o.rest)

      y : ℕ
      y = target (act t) v j

      C : IsBest c × (weight (best c) ≡ key c)
      C = best_weighs c cb o cl

      cw : 64 * ((act t j).cost + cost_by (act t) r) + suc (length r) ≡ key c
      cw = subst (λ (p : List ℕ). weight p ≡ key c) e C.1

      yb : y < n
      yb = inside c j O.0 O.1

      ya : Above y (weight r)
      ya = above y r yb (path_uncons (act t) A K v d c j r (rw e at C.0.path)).2

      -- from an open value on it would weigh too much
      yo : Done rest y
      yo h = omega (arith, cw, ya.1 h c cb o)

      yl : get_or labels y 0 < unreached
      yl = (ya.0 yo).0

      yw : 64 * cost_by (act t) r + length r ≡ key y
      yw = subst (λ (p : List ℕ). weight p ≡ key y) O.2 (best_weighs y yb yo yl).1

      X : IsBest x × (weight (best x) ≡ key x)
      X = best_weighs x xb xo xl

      -- no larger
      least : get_or labels c 0 ≤ (key y + 64 * (act t j).cost + 1) * 65536 + (64 * j + y)
      least = S.least c y (through (key y) (act t j).cost j y) cb ne o yo yl (j, O.0, O.1, refl, refl)

      short : suc (length r) < 64
      short = subst (λ (p : List ℕ). length p < 64) e (best_few c)

      -- no smaller: that path would be better
      other : Better (act t) (i ∷ best x) (j ∷ r) → ⊥
      other b = C.0.least (i ∷ best x) (path_cons (act t) A K v d c i (best x) ib u (rw tx X.0.path)) (rw e b)

      go : Dec (i < j) → Dec (j < i) → i ≡ j
      go (yes a) _ =
          let z : 64 * ((act t i).cost + cost_by (act t) (best x)) + suc (length (best x)) ≡ 64 * ((act t j).cost + cost_by (act t) r) + suc (length r)
          = omega (arith, X.1, cw, m, F.actions_max, small x xb) in
          absurd (other (inr (omega (arith, best_few x, short), inr (omega (arith, best_few x, short), inl a))))
      go (no a) (yes b) = absurd (omega (arith, least, m, cw, yw, F.actions_max, small x xb, small y yb))
      go (no a) (no b) = omega arith

  -- the lead by its label is that of the best path, and it leads to a settled value
  module _ (c : ℕ) (cb : c < n) (o : Done rest c) where
    -- no path
    none_at : get_or labels c 0 ≡ unreached → best c ≡ []
    none_at z = elim (best_cases (act t) A K v d n inside c cb) [ inl q ↦ q.1 | inr B ↦ absurd (omega (arith, z, ((above c (best c) cb B.path).0 o).0)) ]

    some_at : c ≢ d → (x i : ℕ) → Done rest x → get_or labels x 0 < unreached → i < A → T (usable_arc (act t) K v c i) → target (act t) v i ≡ x
        → get_or labels c 0 ≡ through (key x) (act t i).cost i x → (p : List ℕ) → best c ≡ p → (get_or labels c 0 % 65536 ≡ lead_of (act t) v c p) × (lead_of (act t) v c p % 64 ≡ x)
    unfolding lead_of through
    some_at ne x i xo xl ib u tx m p e = by p e
      where
        xb : x < n
        xb = rw (← tx) (inside c i ib u)

        cl : get_or labels c 0 < unreached
        cl = rw m (through_below x i xb ib xl)

        by : (p : List ℕ) → best c ≡ p → (get_or labels c 0 % 65536 ≡ lead_of (act t) v c p) × (lead_of (act t) v c p % 64 ≡ x)
        by [] e = absurd (ne (path_nil (act t) A K v d c (rw e at (best_weighs c cb o cl).0.path)))
        by (j ∷ r) e =
            let z : i ≡ j = lead_same c cb ne o x i xo xl ib u tx m j r e in
            let y : target (act t) v j ≡ x = ap (target (act t) v) (sym z) ∙ tx in
            (omega (arith, m, z, y, small x xb, F.actions_max), omega (arith, y, small x xb))

    pub settled_lead : (lead_by false (get_or labels c 0) c ≡ lead_to t K v d c) × Done rest (lead_to t K v d c % 64) × (lead_to t K v d c % 64 < n)
    unfolding lead_of
    settled_lead = go (ℕ_discrete c d)
      where
        go : Dec (c ≡ d) → (lead_by false (get_or labels c 0) c ≡ lead_to t K v d c) × Done rest (lead_to t K v d c % 64) × (lead_to t K v d c % 64 < n)
        go (yes e) =
            let z : get_or labels c 0 ≡ d = rw e S.goal in
            let q : best c ≡ [] = rw e best_here in
            let here : c % 64 ≡ c = omega (arith, small c cb) in
            (sym (lead_some false (get_or labels c 0) c refl (λ w. omega (arith, w, small d db))) ∙ rw q (omega (arith, small d db)), rw (q, here) o, rw (q, here) cb)
        go (no ne) = elim (S.found c cb ne o) [
          | inl z ↦
              let q : best c ≡ [] = none_at z in
              let here : c % 64 ≡ c = omega (arith, small c cb) in
              (sym (lead_none false (get_or labels c 0) c refl z) ∙ rw q refl, rw (q, here) o, rw (q, here) cb)
          | inr (x, xo, xl, (i, ib, u, tx, m)) ↦
              let r = some_at ne x i xo xl ib u tx m (best c) refl in
              let xb : x < n = rw (← tx) (inside c i ib u) in
              (sym (lead_some false (get_or labels c 0) c refl (λ z. omega (arith, z, m, through_below x i xb ib xl))) ∙ r.0, rw r.1 xo, rw r.1 xb)
        ]
