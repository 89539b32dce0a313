-- The best path of one variable along usable arcs (6.7): no path at all is better, by cost, then moves, then action numbers, and it has
-- fewer moves than the variable has values. Of paths with at most k moves the definition takes the best, by induction over k: behind
-- its first action a best path goes on by a best one. A path with more moves than that comes to some value twice; what lies between
-- is cut out, which takes away moves and never adds cost, so that it is worse than the one that is left.
use Prim.Native.Nat.{ℕ, zero, suc, ◌+◌, ◌≤◌, ◌<◌, pred}
use mathlib.Core.Path.{◌≡◌, refl, sym, ◌∙◌, ap, subst}
use mathlib.Core.Logic.{◌⊎◌, inl, inr}
use mathlib.Core.Bool.{Bool, true, false, not, ◌&&◌}
use mathlib.Core.List.{List, [], ◌∷◌}
use mathlib.Core.Option.{Option, none, some}
use lib.Dec.{T, T_not, not_T, eqb, eqb→eq, eqb_refl, ltb, lt→ltb, ltb→lt}
use lib.ListN.{length}
use native.Mathlib.Omega.{arith}
use native.Mathlib.Decide.{ℕ_discrete, dec_lt}
use Rattle.planning.specs.Basics.{tally}
use Rattle.planning.specs.Record.{Action, Task}
use Rattle.planning.specs.Runs.{State, has, holds, actions, count, act, cost_by}
use Rattle.planning.specs.Painting.{reduced_effects, target, arc_from}
use Rattle.planning.specs.Repair.{usable_arc, is_path, smaller, better, choose, best_below, behind, best_in, best_path}
use Rattle.laws.proofs.Tests.{and_l, and_r, and_i, or_l, or_r, or_cases}
use Rattle.laws.proofs.Below.{below_cases, tally_le, tally_pos, tally_cases}
use Rattle.laws.proofs.Facts.{holds→sub, sub→holds, has→touches, Func}
use Rattle.laws.proofs.Steps.{All}
use Rattle.laws.proofs.Formed.{Formed, pre_func, eff_func, eff_below}
use Rattle.laws.proofs.Arcs.{Arc, arc_reduced, arc_from_elim, arc_from_intro}
use Rattle.laws.proofs.Walks.{Walk, Usable, stop, move}

-- `smaller` as a proposition: a strict order of all lists
abbrev pub Less : List ℕ → List ℕ → Type 0
Less [] [] = ⊥
Less [] (y ∷ q) = Unit {0}
Less (x ∷ p) [] = ⊥
Less (x ∷ p) (y ∷ q) = (x < y) ⊎ ((x ≡ y) × Less p q)

smaller→less : (p q : List ℕ) → T (smaller p q) → Less p q
unfolding smaller
smaller→less [] [] t = t
smaller→less [] (y ∷ q) t = tt
smaller→less (x ∷ p) [] t = t
smaller→less (x ∷ p) (y ∷ q) t = elim (or_cases (ltb x y) (eqb x y && smaller p q) t) [
  | inl h ↦ inl (ltb→lt x y h)
  | inr h ↦ inr (eqb→eq x y (and_l (eqb x y) (smaller p q) h), smaller→less p q (and_r (eqb x y) (smaller p q) h))
]

less→smaller : (p q : List ℕ) → Less p q → T (smaller p q)
unfolding smaller
less→smaller [] [] h = h
less→smaller [] (y ∷ q) h = tt
less→smaller (x ∷ p) [] h = h
less→smaller (x ∷ p) (y ∷ q) (inl h) = or_l (ltb x y) (eqb x y && smaller p q) (lt→ltb x y h)
less→smaller (x ∷ p) (y ∷ q) (inr h) = or_r (ltb x y) (eqb x y && smaller p q) (and_i (eqb x y) (smaller p q) (rw h.0 (eqb_refl y)) (less→smaller p q h.1))

less_irr : (p : List ℕ) → Less p p → ⊥
less_irr [] h = h
less_irr (x ∷ p) (inl h) = omega arith
less_irr (x ∷ p) (inr h) = less_irr p h.1

less_trans : (p q r : List ℕ) → Less p q → Less q r → Less p r
less_trans [] [] r h k = absurd h
less_trans [] (y ∷ q) [] h k = k
less_trans [] (y ∷ q) (z ∷ r) h k = tt
less_trans (x ∷ p) [] r h k = absurd h
less_trans (x ∷ p) (y ∷ q) [] h k = k
less_trans (x ∷ p) (y ∷ q) (z ∷ r) (inl h) (inl k) = inl (omega arith)
less_trans (x ∷ p) (y ∷ q) (z ∷ r) (inl h) (inr k) = inl (omega (arith, k.0))
less_trans (x ∷ p) (y ∷ q) (z ∷ r) (inr h) (inl k) = inl (omega (arith, h.0))
less_trans (x ∷ p) (y ∷ q) (z ∷ r) (inr h) (inr k) = inr (h.0 ∙ k.0, less_trans p q r h.1 k.1)

less_cases : (p q : List ℕ) → (p ≡ q) ⊎ (Less p q ⊎ Less q p)
less_cases [] [] = inl refl
less_cases [] (y ∷ q) = inr (inl tt)
less_cases (x ∷ p) [] = inr (inr tt)
less_cases (x ∷ p) (y ∷ q) = go (ℕ_discrete x y) (dec_lt x y) (less_cases p q)
  where
    go : Dec (x ≡ y) → Dec (x < y) → (p ≡ q) ⊎ (Less p q ⊎ Less q p) → (x ∷ p ≡ y ∷ q) ⊎ (Less (x ∷ p) (y ∷ q) ⊎ Less (y ∷ q) (x ∷ p))
    go (yes e) _ (inl h) = inl (rw (e, h) refl)
    go (yes e) _ (inr (inl h)) = inr (inl (inr (e, h)))
    go (yes e) _ (inr (inr h)) = inr (inr (inr (sym e, h)))
    go (no n) (yes b) _ = inr (inl (inl b))
    go (no n) (no b) _ = inr (inr (inl (omega arith)))

module _ (act : ℕ → Action) where
  -- what a path is compared by
  abbrev key : List ℕ → List ℕ
  key p = cost_by act p ∷ length p ∷ p

  abbrev pub Better : List ℕ → List ℕ → Type 0
  Better p q = Less (key p) (key q)

  -- the definition's test
  pub better→Better : (p q : List ℕ) → T (better act p q) → Better p q
  unfolding better
  better→Better p q t = smaller→less (key p) (key q) t

  pub Better→better : (p q : List ℕ) → Better p q → T (better act p q)
  unfolding better
  Better→better p q h = less→smaller (key p) (key q) h

  better_cases : (p q : List ℕ) → (p ≡ q) ⊎ (Better p q ⊎ Better q p)
  better_cases p q = elim (less_cases (key p) (key q)) [ inl e ↦ inl (same e) | inr h ↦ inr h ]
    where
      tail : List ℕ → List ℕ
      tail [] = []
      tail (x ∷ l) = l

      same : key p ≡ key q → p ≡ q
      same e = ap (λ (l : List ℕ). tail (tail l)) e

  -- where q is not better than p, p is better than what q is better than
  better_over : (p q r : List ℕ) → (Better q p → ⊥) → Better q r → Better p r
  better_over p q r n h = elim (better_cases p q) [
    | inl e ↦ rw e h
    | inr (inl b) ↦ less_trans (key p) (key q) (key r) b h
    | inr (inr b) ↦ absurd (n b)
  ]

  better_same : (p q : List ℕ) → (Better p q → ⊥) → (Better q p → ⊥) → p ≡ q
  better_same p q m n = elim (better_cases p q) [ inl e ↦ e | inr (inl b) ↦ absurd (m b) | inr (inr b) ↦ absurd (n b) ]

  better_nil : (q : List ℕ) → Better q [] → ⊥
  unfolding cost_by
  better_nil q (inl h) = omega arith
  better_nil [] (inr (_, inl h)) = omega arith
  better_nil [] (inr (_, inr h)) = h.1
  better_nil (i ∷ q) (inr (_, inl h)) = omega arith
  better_nil (i ∷ q) (inr (_, inr h)) = h.1

  -- behind the same action
  better_behind : (i : ℕ) (p q : List ℕ) → Better p q → Better (i ∷ p) (i ∷ q)
  unfolding cost_by
  better_behind i p q (inl h) = inl (omega arith)
  better_behind i p q (inr (e, inl h)) = inr (ap (λ x. (act i).cost + x) e, inl (omega arith))
  better_behind i p q (inr (e, inr h)) = inr (ap (λ x. (act i).cost + x) e, inr (ap suc h.0, inr (refl, h.1)))

  better_front : (i : ℕ) (p q : List ℕ) → Better (i ∷ p) (i ∷ q) → Better p q
  unfolding cost_by
  better_front i p q (inl h) = inl (omega arith)
  better_front i p q (inr (e, inl h)) = inr (omega arith, inl (omega arith))
  better_front i p q (inr (e, inr (f, inl h))) = absurd (omega arith)
  better_front i p q (inr (e, inr (f, inr h))) = inr (omega arith, inr (omega arith, h.1))

  -- fewer moves at no more cost
  better_short : (p q : List ℕ) → cost_by act p ≤ cost_by act q → length p < length q → Better p q
  better_short p q a b = go (dec_lt (cost_by act p) (cost_by act q))
    where
      go : Dec (cost_by act p < cost_by act q) → Better p q
      go (yes h) = inl h
      go (no h) = inr (omega arith, inl b)

  -- the best of n
  record BestOf (n : ℕ) (f : ℕ → Option (List ℕ)) (p : List ℕ) : Type 0 where
    pub at : ℕ
    pub below : at < n
    pub from : f at ≡ some p
    pub least : (j : ℕ) (q : List ℕ) → j < n → f j ≡ some q → Better q p → ⊥

  abbrev BestOf? : (n : ℕ) (f : ℕ → Option (List ℕ)) → Option (List ℕ) → Type 0
  BestOf? n f none = (j : ℕ) → j < n → f j ≡ none
  BestOf? n f (some p) = BestOf n f p

  some_same : (p q : List ℕ) → some p ≡ some q → p ≡ q
  some_same p q e = ap (λ (o : Option (List ℕ)). elim o as (λ _. List ℕ) [ none ↦ [] | some l ↦ l ]) e

  none_some : (p : List ℕ) → none ≡ some p → ⊥
  none_some p e = subst (λ (o : Option (List ℕ)). elim o as (λ _. Type 0) [ none ↦ Unit | some l ↦ ⊥ ]) e tt

  best_below_is : (n : ℕ) (f : ℕ → Option (List ℕ)) → BestOf? n f (best_below act n f)
  unfolding best_below choose
  best_below_is zero f = λ j h. absurd (omega arith)
  best_below_is (suc n) f = go (best_below act n f) (best_below_is n f) (f n) refl
    where
      last : (q r : List ℕ) → f n ≡ some q → f n ≡ some r → Better r q → ⊥
      last q r e g h = less_irr (key q) (rw (some_same r q (sym g ∙ e)) at h)

      pick : (p q : List ℕ) → BestOf n f p → f n ≡ some q → (b : Bool) → better act q p ≡ b → BestOf? (suc n) f (elim b [ true ↦ some q | false ↦ some p ])
      pick p q H e true z =
          let w : Better q p = better→Better q p (rw z tt) in
          record {
            at = n;
            below = omega arith;
            from = e;
            least = λ j r jb g h. elim (below_cases j n jb) [
              | inl b ↦ H.least j r b g (less_trans (key r) (key q) (key p) h w)
              | inr i ↦ last q r e (subst (λ x. f x ≡ some r) i g) h
            ];
          }
      pick p q H e false z =
          let w : Better q p → ⊥ = λ h. subst (λ b. T b) z (Better→better q p h) in
          record {
            at = H.at;
            below = omega (arith, H.below);
            from = H.from;
            least = λ j r jb g h. elim (below_cases j n jb) [
              | inl b ↦ H.least j r b g h
              | inr i ↦ w (rw (some_same r q (sym (subst (λ x. f x ≡ some r) i g) ∙ e)) at h)
            ];
          }

      go : (o : Option (List ℕ)) → BestOf? n f o → (x : Option (List ℕ)) → f n ≡ x → BestOf? (suc n) f (choose act o x)
      go none H none e = λ j h. elim (below_cases j n h) [ inl b ↦ H j b | inr i ↦ rw i e ]
      go none H (some q) e = record {
        at = n;
        below = omega arith;
        from = e;
        least = λ j r jb g h. elim (below_cases j n jb) [ inl b ↦ none_some r (sym (H j b) ∙ g) | inr i ↦ last q r e (subst (λ x. f x ≡ some r) i g) h ];
      }
      go (some p) H none e = record {
        at = H.at;
        below = omega (arith, H.below);
        from = H.from;
        least = λ j r jb g h. elim (below_cases j n jb) [ inl b ↦ H.least j r b g h | inr i ↦ none_some r (sym e ∙ subst (λ x. f x ≡ some r) i g) ];
      }
      go (some p) H (some q) e = pick p q H e (better act q p) refl

  module _ (A : ℕ) (K : State) (v d : ℕ) where
    abbrev Is : ℕ → List ℕ → Type 0
    Is c p = T (is_path act A K v c d p)

    pub path_cons : (c i : ℕ) (p : List ℕ) → i < A → T (usable_arc act K v c i) → Is (target act v i) p → Is c (i ∷ p)
    unfolding is_path
    path_cons c i p b u h = and_i (ltb i A && usable_arc act K v c i) (is_path act A K v (target act v i) d p) (and_i (ltb i A) (usable_arc act K v c i) (lt→ltb i A b) u) h

    pub path_uncons : (c i : ℕ) (p : List ℕ) → Is c (i ∷ p) → (i < A) × T (usable_arc act K v c i) × Is (target act v i) p
    unfolding is_path
    path_uncons c i p h =
        let t = and_l (ltb i A && usable_arc act K v c i) (is_path act A K v (target act v i) d p) h in
        (ltb→lt i A (and_l (ltb i A) (usable_arc act K v c i) t), and_r (ltb i A) (usable_arc act K v c i) t, and_r (ltb i A && usable_arc act K v c i) (is_path act A K v (target act v i) d p) h)

    pub path_nil : (c : ℕ) → Is c [] → c ≡ d
    unfolding is_path
    path_nil c h = eqb→eq c d h

    pub path_here : Is d []
    unfolding is_path
    path_here = eqb_refl d

    path_below : (c : ℕ) (p : List ℕ) → Is c p → All (λ i. i < A) p
    path_below c [] h = tt
    path_below c (i ∷ p) h = let u = path_uncons c i p h in (u.0, path_below (target act v i) p u.2)

    -- the best of those with at most k moves
    record Found (k c : ℕ) (p : List ℕ) : Type 0 where
      pub path : Is c p
      pub short : length p ≤ k
      pub least : (q : List ℕ) → length q ≤ k → Is c q → Better q p → ⊥

    abbrev Found? : ℕ → ℕ → Option (List ℕ) → Type 0
    Found? k c none = (q : List ℕ) → length q ≤ k → Is c q → ⊥
    Found? k c (some p) = Found k c p

    -- where c is d the empty path
    found_here : (k c : ℕ) → eqb c d ≡ true → Found? k c (some [])
    unfolding is_path
    found_here k c e = record { path = rw e tt; short = omega arith; least = λ q l h b. better_nil q b }

    step_of : ℕ → ℕ → ℕ → Option (List ℕ)
    step_of k c i = elim (usable_arc act K v c i) [ true ↦ behind i (best_in act A K v k (target act v i) d) | false ↦ none ]

    -- a path by i first, and what the definition has for i
    step_best : (k c i : ℕ) → Found? k (target act v i) (best_in act A K v k (target act v i) d) → (q : List ℕ) → length q ≤ k → Is c (i ∷ q)
        → (p : List ℕ) × (step_of k c i ≡ some (i ∷ p)) × (Better q p → ⊥)
    unfolding step_of behind
    step_best k c i H q l h = go (usable_arc act K v c i) refl (best_in act A K v k (target act v i) d) H
      where
        u : (i < A) × T (usable_arc act K v c i) × Is (target act v i) q
        u = path_uncons c i q h

        go : (b : Bool) → usable_arc act K v c i ≡ b → (o : Option (List ℕ)) → Found? k (target act v i) o
            → (p : List ℕ) × (elim b as (λ _. Option (List ℕ)) [ true ↦ behind i o | false ↦ none ] ≡ some (i ∷ p)) × (Better q p → ⊥)
        go true e none F = absurd (F q l u.2)
        go true e (some p) F = (p, refl, F.least q l u.2)
        go false e o F = absurd (subst (λ b. T b) e u.1)

    step_path : (k c i : ℕ) → i < A → Found? k (target act v i) (best_in act A K v k (target act v i) d) → (p : List ℕ) → step_of k c i ≡ some p → Is c p × (length p ≤ suc k)
    unfolding step_of behind
    step_path k c i b H p e = go (usable_arc act K v c i) refl (best_in act A K v k (target act v i) d) H e
      where
        go : (b : Bool) → usable_arc act K v c i ≡ b → (o : Option (List ℕ)) → Found? k (target act v i) o
            → elim b as (λ _. Option (List ℕ)) [ true ↦ behind i o | false ↦ none ] ≡ some p → Is c p × (length p ≤ suc k)
        go true e none F z = absurd (none_some p z)
        go true e (some q) F z =
            let s : i ∷ q ≡ p = some_same (i ∷ q) p z in
            rw (← s) (path_cons c i q b (rw e tt) F.path, omega (arith, F.short))
        go false e o F z = absurd (none_some p z)

    best_in_is : (k c : ℕ) → Found? k c (best_in act A K v k c d)
    unfolding best_in step_of is_path
    best_in_is zero c = go (eqb c d) refl
      where
        go : (b : Bool) → eqb c d ≡ b → Found? 0 c (elim b [ true ↦ some [] | false ↦ none ])
        go true e = found_here 0 c e
        go false e = λ q l h. elim q as (λ q. length q ≤ 0 → Is c q → ⊥) [ [] ↦ λ l h. subst (λ b. T b) e h | i ∷ q ↦ λ l h. omega arith ] l h
    best_in_is (suc k) c = go (eqb c d) refl (best_in_is k)
      where
        inner : eqb c d ≡ false → ((x : ℕ) → Found? k x (best_in act A K v k x d)) → (o : Option (List ℕ)) → BestOf? A (step_of k c) o → Found? (suc k) c o
        inner e f none B = λ q l h. elim q as (λ q. length q ≤ suc k → Is c q → ⊥) [
          | [] ↦ λ l h. subst (λ b. T b) e h
          | i ∷ q ↦ λ l h. let s = step_best k c i (f (target act v i)) q (omega arith) h in none_some (i ∷ s.0) (sym (B i (path_uncons c i q h).0) ∙ s.1)
        ] l h
        inner e f (some p) B =
            let s = step_path k c B.at B.below (f (target act v B.at)) p B.from in
            record {
              path = s.0;
              short = s.1;
              least = λ q l h b. elim q as (λ q. length q ≤ suc k → Is c q → Better q p → ⊥) [
                | [] ↦ λ l h b. subst (λ b. T b) e h
                | i ∷ q ↦ λ l h b.
                    let r = step_best k c i (f (target act v i)) q (omega arith) h in
                    B.least i (i ∷ r.0) (path_uncons c i q h).0 r.1 (better_over (i ∷ r.0) (i ∷ q) p (λ z. r.2 (better_front i q r.0 z)) b)
              ] l h b;
            }

        go : (b : Bool) → eqb c d ≡ b → ((x : ℕ) → Found? k x (best_in act A K v k x d)) → Found? (suc k) c (elim b [ true ↦ some [] | false ↦ best_below act A (step_of k c) ])
        go true e f = found_here (suc k) c e
        go false e f = inner e f (best_below act A (step_of k c)) (best_below_is A (step_of k c))

    -- what is known of it without a look at other paths
    pub best_short : (n : ℕ) → 0 < n → (c : ℕ) → length (best_path act A K v n c d) < n
    unfolding best_path
    best_short n pos c = go (best_in act A K v (pred n) c d) (best_in_is (pred n) c)
      where
        go : (o : Option (List ℕ)) → Found? (pred n) c o → length {A = ℕ} (elim o [ none ↦ [] | some p ↦ p ]) < n
        go none F = omega arith
        go (some p) F = omega (arith, F.short)

    pub best_below_lem : (n c : ℕ) → All (λ i. i < A) (best_path act A K v n c d)
    unfolding best_path
    best_below_lem n c = go (best_in act A K v (pred n) c d) (best_in_is (pred n) c)
      where
        go : (o : Option (List ℕ)) → Found? (pred n) c o → All (λ i. i < A) (elim o [ none ↦ [] | some p ↦ p ])
        go none F = tt
        go (some p) F = path_below c p F.path

    -- Loops cut out. P are the values that a path may come to; what is left of it behind its last visit of y does not come to y again, so
    -- that the values still allowed become fewer with each move.
    minus : (ℕ → Bool) → ℕ → ℕ → Bool
    minus P y x = P x && not (eqb x y)

    abbrev Visits : (ℕ → Bool) → ℕ → List ℕ → Type 0
    Visits P c [] = T (P c)
    Visits P c (i ∷ p) = T (P c) × Visits P (target act v i) p

    abbrev Away : (ℕ → Bool) → ℕ → List ℕ → Type 0
    Away P y [] = Unit {0}
    Away P y (i ∷ p) = Visits (minus P y) (target act v i) p

    record Later (P : ℕ → Bool) (y : ℕ) (q : List ℕ) : Type 0 where
      pub rest : List ℕ
      pub path : Is y rest
      pub cheap : cost_by act rest ≤ cost_by act q
      pub short : length rest ≤ length q
      pub away : Away P y rest

    last_visit : (P : ℕ → Bool) (y x : ℕ) (q : List ℕ) → Is x q → Visits P x q → Visits (minus P y) x q ⊎ Later P y q
    unfolding cost_by minus
    last_visit P y x [] h w = go (ℕ_discrete x y)
      where
        go : Dec (x ≡ y) → T (P x && not (eqb x y)) ⊎ Later P y []
        go (yes e) = inr (record { rest = []; path = subst (λ z. Is z []) e h; cheap = omega arith; short = omega arith; away = tt })
        go (no n) = inl (and_i (P x) (not (eqb x y)) w (not_T (eqb x y) (λ t. n (eqb→eq x y t))))
    last_visit P y x (i ∷ q) h w = go (last_visit P y (target act v i) q (path_uncons x i q h).2 w.1) (ℕ_discrete x y)
      where
        go : Visits (minus P y) (target act v i) q ⊎ Later P y q → Dec (x ≡ y) → (T (P x && not (eqb x y)) × Visits (minus P y) (target act v i) q) ⊎ Later P y (i ∷ q)
        go (inr L) _ = inr (record { rest = L.rest; path = L.path; cheap = omega (arith, L.cheap); short = omega (arith, L.short); away = L.away })
        go (inl a) (yes e) = inr (record { rest = i ∷ q; path = subst (λ z. Is z (i ∷ q)) e h; cheap = omega arith; short = omega arith; away = a })
        go (inl a) (no n) = inl (and_i (P x) (not (eqb x y)) w.0 (not_T (eqb x y) (λ t. n (eqb→eq x y t))), a)

    visits_first : (P : ℕ → Bool) (x : ℕ) (q : List ℕ) → Visits P x q → T (P x)
    visits_first P x [] w = w
    visits_first P x (i ∷ q) w = w.0

    visits_all : (x : ℕ) (q : List ℕ) → Visits (λ _. true) x q
    visits_all x [] = tt
    visits_all x (i ∷ q) = (tt, visits_all (target act v i) q)

    module _ (n : ℕ) (inside : (c i : ℕ) → i < A → T (usable_arc act K v c i) → target act v i < n) where
      -- a path in its place with fewer moves than values, no dearer and no longer
      record Cut (m x : ℕ) (q : List ℕ) : Type 0 where
        pub rest : List ℕ
        pub path : Is x rest
        pub cheap : cost_by act rest ≤ cost_by act q
        pub short : length rest ≤ length q
        pub few : length rest < m

      tally_minus : (P : ℕ → Bool) (x : ℕ) → x < n → T (P x) → tally n (minus P x) < tally n P
      unfolding minus
      tally_minus P x b h = elim (tally_cases n (minus P x) P (λ i _ t. and_l (P i) (not (eqb i x)) t)) [
        | inl a ↦ absurd (T_not (eqb x x) (and_r (P x) (not (eqb x x)) (a.0 x b h)) (eqb_refl x))
        | inr l ↦ l
      ]

      cut_in : (m : ℕ) (P : ℕ → Bool) (x : ℕ) (q : List ℕ) → tally n P ≤ m → x < n → Is x q → Visits P x q → Cut m x q
      unfolding cost_by minus
      cut_in zero P x q l b h w = absurd (omega (arith, tally_pos n P x b (visits_first P x q w)))
      cut_in (suc m) P x q l b h w = go (last_visit P x x q h w) (cut_in m (minus P x))
        where
          rest_of : (r : List ℕ) → Is x r → cost_by act r ≤ cost_by act q → length r ≤ length q → Away P x r
              → ((y : ℕ) (p : List ℕ) → tally n (minus P x) ≤ m → y < n → Is y p → Visits (minus P x) y p → Cut m y p) → Cut (suc m) x q
          rest_of [] p a s w f = record { rest = []; path = p; cheap = a; short = s; few = omega arith }
          rest_of (i ∷ r) p a s w' f =
              let u = path_uncons x i r p in
              let c = f (target act v i) r (omega (arith, tally_minus P x b (visits_first P x q w))) (inside x i u.0 u.1) u.2 w' in
              record {
                rest = i ∷ c.rest;
                path = path_cons x i c.rest u.0 u.1 c.path;
                cheap = omega (arith, c.cheap);
                short = omega (arith, c.short);
                few = omega (arith, c.few);
              }

          go : Visits (minus P x) x q ⊎ Later P x q → ((y : ℕ) (p : List ℕ) → tally n (minus P x) ≤ m → y < n → Is y p → Visits (minus P x) y p → Cut m y p) → Cut (suc m) x q
          go (inl a) f = absurd (T_not (eqb x x) (and_r (P x) (not (eqb x x)) (visits_first (minus P x) x q a)) (eqb_refl x))
          go (inr L) f = rest_of L.rest L.path L.cheap L.short L.away f

      cut : (x : ℕ) (q : List ℕ) → x < n → Is x q → Cut n x q
      cut x q b h = cut_in n (λ _. true) x q (tally_le n (λ _. true)) b h (visits_all x q)

      abbrev best : ℕ → List ℕ
      best c = best_path act A K v n c d

      -- no path, or the best of all
      pub record Best (c : ℕ) : Type 0 where
        pub path : Is c (best c)
        pub least : (q : List ℕ) → Is c q → Better q (best c) → ⊥

      pub best_cases : (c : ℕ) → c < n → (((q : List ℕ) → Is c q → ⊥) × (best c ≡ [])) ⊎ Best c
      unfolding best_path
      best_cases c b = go (best_in act A K v (pred n) c d) refl (best_in_is (pred n) c)
        where
          go : (o : Option (List ℕ)) → best_in act A K v (pred n) c d ≡ o → Found? (pred n) c o → (((q : List ℕ) → Is c q → ⊥) × (best c ≡ [])) ⊎ Best c
          go none e F = inl (λ q h. let x = cut c q b h in F x.rest (omega (arith, x.few)) x.path, rw (e, best_path) refl)
          go (some p) e F =
              let z : best c ≡ p = rw (e, best_path) refl in
              let least : (q : List ℕ) → Is c q → Better q p → ⊥ = λ q h w.
              let x = cut c q b h in
              elim (dec_lt (length x.rest) (length q)) [
                | yes l ↦ F.least x.rest (omega (arith, x.few)) x.path (less_trans (key x.rest) (key q) (key p) (better_short x.rest q x.cheap l) w)
                | no l ↦ F.least q (omega (arith, x.few, x.short)) h w
              ]
              in
              inr (record { path = rw z F.path; least = λ q h w. least q h (subst (λ y. Better q y) z w) })

      pub best_of : (c : ℕ) → c < n → (q : List ℕ) → Is c q → Best c
      best_of c b q h = elim (best_cases c b) [ inl z ↦ absurd (z.0 q h) | inr B ↦ B ]

      -- behind its first action it goes on by the best from there
      pub record Onward (c i : ℕ) (p : List ℕ) : Type 0 where
        pub below : i < A
        pub usable : T (usable_arc act K v c i)
        pub rest : best (target act v i) ≡ p

      pub best_onward : (c : ℕ) → c < n → (i : ℕ) (p : List ℕ) → best c ≡ i ∷ p → Onward c i p
      best_onward c b i p e = elim (best_cases c b) [ inl z ↦ absurd (cons_nil (sym e ∙ z.1)) | inr B ↦ go B ]
        where
          cons_nil : i ∷ p ≡ [] → ⊥
          cons_nil z = let l : suc (length p) ≡ 0 = ap length z in omega arith

          go : Best c → Onward c i p
          go B =
              let u = path_uncons c i p (rw e at B.path) in
              let N = best_of (target act v i) (inside c i u.0 u.1) p u.2 in
              record {
                below = u.0;
                usable = u.1;
                rest = better_same (best (target act v i)) p
                    (λ w. B.least (i ∷ best (target act v i)) (path_cons c i (best (target act v i)) u.0 u.1 N.path) (rw e (better_behind i (best (target act v i)) p w)))
                    (λ w. N.least p u.2 w);
              }

-- Walks and paths. A path is a walk; a walk whose moves that stay where they are were left out is a path.
module _ (act : ℕ → Action) (A : ℕ) (W : State) (v n : ℕ) (pres : (i : ℕ) → i < A → Func (act i).pre) (effs : (i : ℕ) → i < A → Func (act i).eff)
    (range : (i e : ℕ) → i < A → T (has (act i).eff v e) → e < n) where
  abbrev Way : ℕ → List ℕ → ℕ → Type 0
  Way c p d = Walk act (Usable act A W v) v c p d

  pub usable_arc_elim : (c i : ℕ) → i < A → T (usable_arc act W v c i) → Usable act A W v i × Arc act v i c (target act v i)
  unfolding usable_arc
  usable_arc_elim c i b t =
      let a = arc_from_elim act v c i (pres i b) (search and_r) in
      (record { below = b; met = holds→sub W (act i).pre (search and_l); changes = has→touches (reduced_effects (act i)) v (target act v i) (arc_reduced act v c (target act v i) i a) }, a)

  usable_arc_intro : (c d i : ℕ) → Usable act A W v i → Arc act v i c d → T (usable_arc act W v c i) × (target act v i ≡ d)
  unfolding usable_arc
  usable_arc_intro c d i u a =
      let r = arc_from_intro act v c d i (effs i u.below) a in
      (and_i (holds W (act i).pre) (arc_from act v c i) (sub→holds W (act i).pre u.met) r.0, r.1)

  pub usable_arc_inside : (c i : ℕ) → i < A → T (usable_arc act W v c i) → target act v i < n
  usable_arc_inside c i b t = range i (target act v i) b (usable_arc_elim c i b t).1.into

  walk→path : {c d : ℕ} {p : List ℕ} → Way c p d → (q : List ℕ) × T (is_path act A W v c d q)
  walk→path (stop {c = c}) = ([], path_here act A W v c)
  walk→path (move {c = c} {d = d} {e = e} {i = i} u f h k) = go (ℕ_discrete c d) (walk→path k)
    where
      go : Dec (c ≡ d) → (q : List ℕ) × T (is_path act A W v d e q) → (q : List ℕ) × T (is_path act A W v c e q)
      go (yes z) r = rw z r
      go (no z) r =
          let m = usable_arc_intro c d i u (record { from = f; into = h; leaves' = z }) in
          (i ∷ r.0, path_cons act A W v e c i r.0 u.below m.0 (rw m.1 r.1))

  path→walk : (c d : ℕ) (p : List ℕ) → T (is_path act A W v c d p) → Way c p d
  path→walk c d [] h = subst (λ z. Way c [] z) (path_nil act A W v d c h) stop
  path→walk c d (i ∷ p) h =
      let u = path_uncons act A W v d c i p h in
      let m = usable_arc_elim c i u.0 u.1 in
      move m.0 m.1.from m.1.into (path→walk (target act v i) d p u.2)

  pub best_walk : (c d : ℕ) → c < n → (p : List ℕ) → Way c p d → Way c (best_path act A W v n c d) d
  best_walk c d b p w =
      let q = walk→path w in
      path→walk c d (best_path act A W v n c d) (best_of act A W v d n usable_arc_inside c b q.0 q.1).path

-- Of a checked record's task, with whatever is known, and from any value: where some list is a path, the one taken is a path, and no list
-- that is a path is better.
module _ (t : Task) (F : Formed t) (K : State) (v : ℕ) where
  pub arcs_inside : (c i : ℕ) → i < actions t → T (usable_arc (act t) K v c i) → target (act t) v i < count t v
  arcs_inside = usable_arc_inside (act t) (actions t) K v (count t v) (λ i _. pre_func t F i) (λ i _. eff_func t F i) (λ i e _. eff_below t F i v e)

  pub taken_best : (c d : ℕ) → c < count t v → (q : List ℕ) → T (is_path (act t) (actions t) K v c d q)
      → let p = best_path (act t) (actions t) K v (count t v) c d in
      T (is_path (act t) (actions t) K v c d p) × (length p < count t v) × (T (better (act t) q p) → ⊥)
  taken_best c d b q h =
      let p : List ℕ = best_path (act t) (actions t) K v (count t v) c d in
      let B = best_of (act t) (actions t) K v d (count t v) arcs_inside c b q h in
      (B.path, best_short (act t) (actions t) K v d (count t v) (omega arith) c, λ w. B.least q h (better→Better (act t) q p w))
