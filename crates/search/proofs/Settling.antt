-- The search as a whole (Dijkstra). Settled are the values outside the set rest, and any other label is the least by an arc into a settled
-- value. No unsettled label is below a settled one, and a label by an arc is above that of the arc's end; so where the nearest value
-- is settled next, what it gives to settled values is no less than what they have. Each settled value leaves one less to come, which
-- bounds the keys. Where the search stops at x, an arc into x gives more than the label of x, which is the highest settled one; so nothing settled can be
-- bettered.
use mathlib.Core.Path.{◌≡◌, refl, sym, ◌∙◌, subst}
use mathlib.Core.Logic.{◌⊎◌, inl, inr, ◌≢◌}
use mathlib.Core.Bool.{Bool, true, false, not, ◌&&◌}
use mathlib.Core.List.{List}
use Prim.Native.Nat.{ℕ, ◌+◌, ◌-◌, ◌*◌, ◌/◌, ◌^◌, ◌<◌, ◌≤◌}
use native.Mathlib.Omega.{arith}
use native.Mathlib.Decide.{ℕ_discrete, dec_lt}
use lib.Bits.{bit_xor}
use lib.Dec.{T, T_not, eqb, eqb→eq, eqb_refl, ltb, lt→ltb, ltb→lt}
use lib.ListN.{length, get_or, set, replicate, length-set, length-replicate, get_or-replicate}
use lib.Seq.{get_or-set_same, get_or-set_other}
use lib.Pow.{high, ones_split, ones_lt}
use Rattle.std.specs.Prelude.{None}
use Rattle.planning.specs.Basics.{tally}
use Rattle.planning.specs.Record.{Task}
use Rattle.planning.specs.Runs.{State, count}
use Rattle.laws.proofs.Tests.{T_cases}
use Rattle.laws.proofs.Below.{tally_le, tally_cases}
use Rattle.laws.proofs.Formed.{Formed}
use Rattle.laws.proofs.Best.{arcs_inside}
use Rattle.sets.specs.Sets.{in_set}
use Rattle.sets.proofs.Members.{in_set_empty, in_set_single, in_set_xor, xor}
use Rattle.search.proofs.Whole.{in_set_all}
use Rattle.labels.specs.Labels.{Least, Nearest}
use Rattle.labels.proofs.Coming.{left_of, left_out, left_in}
use Rattle.search.specs.Search.{unreached, dearest, highest, through, Into, Lowered, Done, Settled}

-- the empty set
pub none_in : (c : ℕ) → Done 0 c
none_in c h = rw in_set_empty at h

-- a value taken out of a set
rest_bit : (a b : Bool) → (T b → T a) → xor a b ≡ (a && not b)
rest_bit true b h = refl
rest_bit false true h = absurd (h tt)
rest_bit false false h = refl

module _ (set x one : ℕ) (e : one ≡ 2 ^ x) (h : T (in_set set x)) where
  taken : (c : ℕ) → in_set (bit_xor set one) c ≡ (in_set set c && not (eqb c x))
  taken c = rw (in_set_xor, e, in_set_single x c) (rest_bit (in_set set c) (eqb c x) (λ q. rw (eqb→eq c x q) h))

  taken_in : (c : ℕ) → T (in_set set c) → (c ≡ x → ⊥) → T (in_set (bit_xor set one) c)
  taken_in = left_in set x (bit_xor set one) taken

  taken_of : (c : ℕ) → T (in_set (bit_xor set one) c) → T (in_set set c)
  taken_of = left_of set x (bit_xor set one) taken

  pub taken_out : T (in_set (bit_xor set one) x) → ⊥
  taken_out = left_out set x (bit_xor set one) taken

  taken_cases : (c : ℕ) → (T (in_set (bit_xor set one) c) → ⊥) → (c ≡ x) ⊎ (T (in_set set c) → ⊥)
  taken_cases c n = go (ℕ_discrete c x)
    where
      go : Dec (c ≡ x) → (c ≡ x) ⊎ (T (in_set set c) → ⊥)
      go (yes q) = inl q
      go (no q) = inr (λ s. n (taken_in c s q))

  pub taken_fewer : x < 64 → tally 64 (in_set (bit_xor set one)) < tally 64 (in_set set)
  taken_fewer b = elim (tally_cases 64 (in_set (bit_xor set one)) (in_set set) (λ c _ s. taken_of c s)) [ inl a ↦ absurd (taken_out (a.0 x b h)) | inr l ↦ l ]

pub record Settling (t : Task) (K : State) (v d : ℕ) (labels : List ℕ) (rest front : ℕ) : Type 0 where
  pub long : length labels ≡ 64
  pub goal : get_or labels d 0 ≡ d
  pub inside : (c : ℕ) → T (in_set rest c) → c < count t v
  pub fronts : (c : ℕ) → c < 64 → T (in_set front c) → T (in_set rest c) × (get_or labels c 0 < unreached)
  pub front_of : (c : ℕ) → T (in_set rest c) → get_or labels c 0 < unreached → T (in_set front c)
  pub least : (c x m : ℕ) → c < count t v → c ≢ d → x < count t v → Done rest x → Into t K v x (get_or labels x 0 / 65536) c m → get_or labels c 0 ≤ m
  pub found : (c : ℕ) → c < count t v → c ≢ d
      → (get_or labels c 0 ≡ unreached) ⊎ ((x : ℕ) × (x < count t v) × Done rest x × Into t K v x (get_or labels x 0 / 65536) c (get_or labels c 0))
  pub ordered : (s c : ℕ) → s < count t v → Done rest s → T (in_set rest c) → get_or labels s 0 ≤ get_or labels c 0
  pub settled : (s : ℕ) → s < count t v → Done rest s → get_or labels s 0 < unreached
  pub bound : (c : ℕ) → c < count t v → get_or labels c 0 < unreached → get_or labels c 0 / 65536 + tally 64 (in_set rest) * dearest ≤ highest

module _ (t : Task) (F : Formed t) (K : State) (v d : ℕ) (db : d < count t v) where
  abbrev n : ℕ
  n = count t v

  small : (c : ℕ) → c < n → c < 64
  small c b = omega (arith, F.count_max v)

  module _ (labels : List ℕ) (rest front : ℕ) (long : length labels ≡ 64) (goal : get_or labels d 0 ≡ d)
      (blank : (c : ℕ) → c < 64 → (c ≡ d → ⊥) → get_or labels c 0 ≡ unreached) (all : (c : ℕ) → in_set rest c ≡ ltb c n) (one : (c : ℕ) → in_set front c ≡ eqb c d) where
    in_rest : (c : ℕ) → c < n → T (in_set rest c)
    in_rest c b = rw (all c) (lt→ltb c n b)

    settling_start : Settling t K v d labels rest front
    settling_start = record {
      long = long;
      goal = goal;
      inside = λ c h. ltb→lt c n (rw (all c) at h);
      fronts = λ c b h. let e = eqb→eq c d (rw (one c) at h) in (in_rest c (rw e db), rw (e, goal) (omega (arith, small d db)));
      front_of = λ c h l. elim (ℕ_discrete c d) [
        | yes e ↦ rw (one c, e) (eqb_refl d)
        | no e ↦ absurd (omega (arith, blank c (small c (ltb→lt c n (rw (all c) at h))) e))
      ];
      least = λ c x m cb ne xb xo I. absurd (xo (in_rest x xb));
      found = λ c cb ne. inl (blank c (small c cb) ne);
      ordered = λ s c sb so r. absurd (so (in_rest s sb));
      settled = λ s sb so. absurd (so (in_rest s sb));
      bound = λ c cb l. elim (ℕ_discrete c d) [
        | yes e ↦ let z : get_or labels c 0 ≡ d = rw e goal in omega (arith, tally_le 64 (in_set rest), small d db)
        | no e ↦ absurd (omega (arith, blank c (small c cb) e))
      ];
    }

  module _ (labels : List ℕ) (rest front : ℕ) (S : Settling t K v d labels rest front) where
    into_inside : (c y m : ℕ) → Into t K v y (get_or labels y 0 / 65536) c m → y < n
    into_inside c y m (i, ib, u, e, _) = rw (← e) (arcs_inside t F K v c i ib u)

    -- none is left, so that each label stands
    pub settling_end : Nearest labels front None → Settled t K v d labels 0
    settling_end N = record {
      goal = S.goal;
      goal_done = none_in d;
      small = λ c cb l. omega (arith, S.bound c cb l);
      least = λ c y m cb ne _ _ l I. S.least c y m cb ne (into_inside c y m I) (λ r. far y r l) I;
      found = λ c cb ne _. elim (S.found c cb ne) [ inl z ↦ inl z | inr z ↦ inr (z.0, none_in z.0, S.settled z.0 z.1 z.2, z.3) ];
      beyond = λ c y m s r. absurd (none_in c r);
      reached = λ c s r. absurd (none_in c r);
    }
      where
        far : (c : ℕ) → T (in_set rest c) → get_or labels c 0 < unreached → ⊥
        far c r l = N c (small c (S.inside c r)) (S.front_of c r l)

    module _ (x : ℕ) (N : Least labels front x) where
      pub near_in : T (in_set rest x)
      near_in = (S.fronts x N.within N.member).0

      xl : get_or labels x 0 < unreached
      xl = (S.fronts x N.within N.member).1

      xn : x < n
      xn = S.inside x near_in

      pub near_key : get_or labels x 0 / 65536 ≤ highest
      near_key = omega (arith, S.bound x xn xl)

      module _ (one : ℕ) (e : one ≡ 2 ^ x) where
        abbrev rest' : ℕ
        rest' = bit_xor rest one

        out : Done rest' x
        out = taken_out rest x one e near_in

        still_out : (c : ℕ) → Done rest c → Done rest' c
        still_out c o r = o (taken_of rest x one e near_in c r)

        out_cases : (c : ℕ) → Done rest' c → (c ≡ x) ⊎ Done rest c
        out_cases = taken_cases rest x one e near_in

        -- a label by an arc into x
        above : (c m : ℕ) → Into t K v x (get_or labels x 0 / 65536) c m → get_or labels x 0 < m
        unfolding through
        above c m (i, ib, u, _, w) = omega (arith, w)

        -- the settled ones are no farther than x, and the others no nearer
        low : (s : ℕ) → s < n → Done rest' s → get_or labels s 0 ≤ get_or labels x 0
        low s sb so = elim (out_cases s so) [ inl q ↦ rw q (omega arith) | inr q ↦ S.ordered s x sb q near_in ]

        far : (c : ℕ) → T (in_set rest c) → get_or labels x 0 ≤ get_or labels c 0
        far c r = elim (dec_lt (get_or labels c 0) unreached) [
          | yes l ↦ N.least c (small c (S.inside c r)) (S.front_of c r l)
          | no l ↦ omega (arith, xl)
        ]

        -- what is settled is no more than what an arc into x gives
        settled_into : (c m : ℕ) → c < n → Done rest' c → Into t K v x (get_or labels x 0 / 65536) c m → get_or labels c 0 ≤ m
        settled_into c m cb o I = omega (arith, low c cb o, above c m I)

        reached_out : (s : ℕ) → s < n → Done rest' s → get_or labels s 0 < unreached
        reached_out s sb so = omega (arith, low s sb so, xl)

        -- d is settled: x, if another, has its label by an arc, which is above that of d
        goal_out : Done rest' d
        unfolding through
        goal_out r = elim (S.found x xn nd) [
          | inl z ↦ omega (arith, z, xl)
          | inr (y, yb, yo, (i, ib, u, ty, w)) ↦ omega (arith, w, far d (taken_of rest x one e near_in d r), S.goal, small d db)
        ]
          where
            nd : x ≢ d
            nd q = out (subst (λ y. T (in_set rest' y)) (sym q) r)

        -- x is the last to be settled
        pub settling_stop : Settled t K v d labels rest' × Done rest' x
        settling_stop = (
          record {
            goal = S.goal;
            goal_done = goal_out;
            small = λ c cb l. omega (arith, S.bound c cb l);
            least = λ c y m cb ne co yo yl I. elim (out_cases y yo) [
              | inl q ↦ settled_into c m cb co (subst (λ z. Into t K v z (get_or labels z 0 / 65536) c m) q I)
              | inr q ↦ S.least c y m cb ne (into_inside c y m I) q I
            ];
            found = λ c cb ne co. elim (S.found c cb ne) [ inl z ↦ inl z | inr (y, yb, yo, I) ↦ inr (y, still_out y yo, S.settled y yb yo, I) ];
            beyond = λ c y m s r yo yl I sb so. elim (out_cases y yo) [
              | inl q ↦ omega (arith, low s sb so, above c m (subst (λ z. Into t K v z (get_or labels z 0 / 65536) c m) q I))
              | inr q ↦
                  let rc = taken_of rest x one e near_in c r in
                  omega (arith, low s sb so, far c rc, S.least c y m (S.inside c rc) (λ z. goal_out (subst (λ y. T (in_set rest' y)) z r)) (into_inside c y m I) q I)
            ];
            reached = λ c s r sb so. reached_out s sb so;
          },
          out,
        )

        module _ (labels' : List ℕ) (front' : ℕ) (M : Lowered (Into t K v x (get_or labels x 0 / 65536)) (bit_xor rest one) labels labels' (bit_xor front one) front') where
          same : (c : ℕ) → c < n → Done rest' c → get_or labels' c 0 ≡ get_or labels c 0
          same c b o = elim (M.found c (small c b)) [ inl z ↦ z | inr z ↦ absurd (o z.0) ]

          high_enough : (c m : ℕ) → Into t K v x (get_or labels x 0 / 65536) c m → 65535 < m
          unfolding through
          high_enough c m (i, ib, u, _, w) = omega (arith, w)

          near : (c m : ℕ) → Into t K v x (get_or labels x 0 / 65536) c m → (m < unreached) × (m / 65536 ≤ get_or labels x 0 / 65536 + dearest)
          unfolding through
          near c m (i, ib, u, _, w) =
              let a = F.cost_below i in
              let b = F.actions_max in
              let k = near_key in
              (omega (arith, w, N.within), omega (arith, w, N.within))

          fewer : tally 64 (in_set rest') < tally 64 (in_set rest)
          fewer = taken_fewer rest x one e near_in N.within

          least_into : (c m : ℕ) → c < n → Into t K v x (get_or labels x 0 / 65536) c m → T (in_set rest' c) ⊎ T (not (in_set rest' c)) → get_or labels' c 0 ≤ m
          least_into c m cb I (inl r) = M.least c m (small c cb) r I
          least_into c m cb I (inr r) = let o : Done rest' c = T_not (in_set rest' c) r in omega (arith, same c cb o, settled_into c m cb o I)

          pub settling_turn : Settling t K v d labels' rest' front'
          settling_turn = record {
            long = M.long;
            goal = elim (M.found d (small d db)) [ inl z ↦ z ∙ S.goal | inr z ↦ absurd (omega (arith, M.below d (small d db), S.goal, small d db, high_enough d (get_or labels' d 0) z.1)) ];
            inside = λ c h. S.inside c (taken_of rest x one e near_in c h);
            fronts = λ c b h. elim (M.grown c b h) [
              | inl z ↦
                  let f : T (in_set front c) = taken_of front x one e N.member c z in
                  let p = S.fronts c b f in
                  (taken_in rest x one e near_in c p.0 (λ q. taken_out front x one e N.member (subst (λ y. T (in_set (bit_xor front one) y)) q z)), omega (arith, p.1, M.below c b))
              | inr z ↦ (z.0, omega (arith, M.least c z.1.0 b z.0 z.1.1, (near c z.1.0 z.1.1).0))
            ];
            front_of = λ c r l.
                let rc = taken_of rest x one e near_in c r in
                let b = small c (S.inside c rc) in
                elim (M.found c b) [
                  | inl z ↦ M.kept c (taken_in front x one e N.member c (S.front_of c rc (omega (arith, z))) (λ q. out (subst (λ y. T (in_set rest' y)) q r)))
                  | inr z ↦ M.grows c (get_or labels' c 0) b r z.1
                ];
            least = λ c y m cb ne yb yo I. elim (out_cases y yo) [
              | inl q ↦ least_into c m cb (subst (λ z. Into t K v x (z / 65536) c m) (same x xn out) (subst (λ z. Into t K v z (get_or labels' z 0 / 65536) c m) q I)) (T_cases (in_set rest' c))
              | inr q ↦ omega (arith, M.below c (small c cb), S.least c y m cb ne yb q (subst (λ z. Into t K v y (z / 65536) c m) (same y yb yo) I))
            ];
            found = λ c cb ne. elim (M.found c (small c cb)) [
              | inl z ↦ elim (S.found c cb ne) [
                | inl w ↦ inl (z ∙ w)
                | inr (y, yb, yo, I) ↦
                    let s : get_or labels y 0 ≡ get_or labels' y 0 = sym (same y yb (still_out y yo)) in
                    inr (y, yb, still_out y yo, subst (λ k. Into t K v y (k / 65536) c (get_or labels' c 0)) s (subst (λ m. Into t K v y (get_or labels y 0 / 65536) c m) (sym z) I))
              ]
              | inr z ↦ inr (x, xn, out, subst (λ k. Into t K v x (k / 65536) c (get_or labels' c 0)) (sym (same x xn out)) z.1)
            ];
            ordered = λ s c sb so r.
                let rc = taken_of rest x one e near_in c r in
                let b = small c (S.inside c rc) in
                elim (M.found c b) [
                  | inl z ↦ omega (arith, same s sb so, low s sb so, z, far c rc)
                  | inr z ↦ omega (arith, same s sb so, low s sb so, above c (get_or labels' c 0) z.1)
                ];
            settled = λ s sb so. rw (same s sb so) (reached_out s sb so);
            bound = λ c cb l. elim (M.found c (small c cb)) [
              | inl z ↦ omega (arith, z, fewer, S.bound c cb (omega (arith, z)))
              | inr z ↦ omega (arith, fewer, S.bound x xn xl, (near c (get_or labels' c 0) z.1).1)
            ];
          }

-- the start: all values unsettled, and d has the label of the empty path
all_ones : (n : ℕ) → n ≤ 64 → 18446744073709551615 / 2 ^ (64 - n) ≡ 2 ^ n - 1
all_ones n h =
    let e : n + (64 - n) ≡ 64 = omega arith in
    let o : 2 ^ (n + (64 - n)) - 1 ≡ 18446744073709551615 = rw e refl in
    rw (← o, ones_split n (64 - n)) (high (2 ^ n - 1) (64 - n) (ones_lt (64 - n)))

pub started : (t : Task) (F : Formed t) (K : State) (v d n one : ℕ) → d < count t v → n ≡ count t v → one ≡ 2 ^ d
    → let labels = set (replicate 64 unreached) d d in Settling t K v d labels (18446744073709551615 / 2 ^ (64 - n)) one × Least labels one d
started t F K v d n one db en eo = (
  settling_start t F K v d db labels (18446744073709551615 / 2 ^ (64 - n)) one
      (length-set (replicate 64 unreached) d d ∙ length-replicate 64 unreached)
      (get_or-set_same (replicate 64 unreached) d d 0 (omega (arith, length-replicate 64 unreached, ds)))
      (λ c b q. get_or-set_other (replicate 64 unreached) d c d 0 q ∙ get_or-replicate 64 c unreached 0 b)
      (λ c. rw (all_ones n (omega (arith, en, F.count_max v)), in_set_all n c, en) refl)
      front,
  record { within = ds; member = rw (front d) (eqb_refl d); least = λ c b h. rw (eqb→eq c d (rw (front c) at h)) (omega arith) },
)
  where
    labels : List ℕ
    labels = set (replicate 64 unreached) d d

    ds : d < 64
    ds = omega (arith, F.count_max v)

    front : (c : ℕ) → in_set one c ≡ eqb c d
    front c = rw eo (in_set_single d c)
