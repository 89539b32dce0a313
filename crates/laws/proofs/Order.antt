-- The clients-first order. In a graph without a cycle each arc leads to a node from which fewer nodes can be reached, so that among
-- untaken nodes there is one with no arc to another (`ready_some`). So the order takes every black node, once, and each at a time when
-- it has no arc to an untaken one: no node that is taken earlier has an arc to it.
use Prim.Native.Nat.{ℕ, zero, suc, ◌≤◌, ◌<◌, pred}
use mathlib.Core.Path.{◌≡◌, refl, sym, subst}
use mathlib.Core.Logic.{◌⊎◌, inl, inr, ◌≢◌}
use mathlib.Core.Bool.{Bool, not, ◌&&◌, ◌||◌, and-false}
use mathlib.Core.List.{List, [], ◌∷◌}
use mathlib.Core.Option.{Option, none, some}
use lib.Dec.{T, T_not, not_T, eqb, eqb→eq, eqb_refl}
use lib.ListN.{length}
use native.Mathlib.Omega.{arith}
use Rattle.planning.specs.Basics.{some_below, tally, first, times, reach}
use Rattle.planning.specs.Record.{Action}
use Rattle.planning.specs.Runs.{has, touches, Mode}
use Rattle.planning.specs.Painting.{reduced_effects, on_cycle}
use Rattle.planning.specs.Repair.{ready, clients_first}
use Rattle.planning.specs.Existence.{share}
use Rattle.laws.proofs.Tests.{T→true, F→false, or_l, or_r, or_cases, and_l, and_r, and_i, T_cases}
use Rattle.laws.proofs.Below.{some_intro, some_elim, First?, first_is, tally_cases, tally_pos, times_one, times_split}
use Rattle.laws.proofs.Graph.{reach_here, reach_move, reach_bound, on_cycle_of}
use Rattle.laws.proofs.Pass.{with}
use Rattle.laws.proofs.Fill.{withs, Ordered, product}

-- the test taken, with v
abbrev pub taking : (ℕ → Bool) → ℕ → ℕ → Bool
taking taken v u = eqb u v || taken u

abbrev pub untaken : Mode → (ℕ → Bool) → ℕ → Bool
untaken m taken v = m v && not (taken v)

untaken_intro : (m : Mode) (taken : ℕ → Bool) (v : ℕ) → T (m v) → (T (taken v) → ⊥) → T (untaken m taken v)
untaken_intro m taken v b t = and_i (m v) (not (taken v)) b (not_T (taken v) t)

untaken_elim : (m : Mode) (taken : ℕ → Bool) (v : ℕ) → T (untaken m taken v) → T (m v) × (T (taken v) → ⊥)
untaken_elim m taken v h = (and_l (m v) (not (taken v)) h, T_not (taken v) (and_r (m v) (not (taken v)) h))

-- one node a turn
pub clients_first_le : (n : ℕ) (adj : ℕ → ℕ → Bool) (m : Mode) (k : ℕ) (taken : ℕ → Bool) → length (clients_first n adj m k taken) ≤ k
unfolding clients_first
clients_first_le n adj m zero taken = omega arith
clients_first_le n adj m (suc k) taken = go (first n (ready n adj m taken)) (clients_first_le n adj m k)
  where
    go : (o : Option ℕ) → ((taken : ℕ → Bool) → length (clients_first n adj m k taken) ≤ k)
        → length {A = ℕ} (elim o [ none ↦ [] | some v ↦ v ∷ clients_first n adj m k (taking taken v) ]) ≤ suc k
    go none rec = omega arith
    go (some v) rec = omega (arith, rec (taking taken v))

module _ (n : ℕ) (adj : ℕ → ℕ → Bool) (m : Mode) (inside : (v : ℕ) → T (m v) → v < n) (ends : (u v : ℕ) → T (adj u v) → T (m u) × T (m v))
    (acyclic : (v : ℕ) → v < n → T (on_cycle n adj v) → ⊥) where
  -- how many nodes can be reached from u
  span : ℕ → ℕ
  span u = tally n (λ w. reach n adj (pred n) u w)

  span_falls : (u w : ℕ) → T (adj u w) → span w < span u
  unfolding span
  span_falls u w a =
      let ub = inside u (ends u w a).0 in
      let wb = inside w (ends u w a).1 in
      elim (tally_cases n (λ x. reach n adj (pred n) w x) (λ x. reach n adj (pred n) u x)
      (λ x xb r. reach_bound n adj x xb (pred n) (omega arith) (suc (pred n)) u ub (reach_move n adj (pred n) u w x wb a r))) [
        | inl h ↦ absurd (acyclic u ub (on_cycle_of n adj u w (pred n) ub wb a (h.0 u ub (reach_here n adj (pred n) u))))
        | inr l ↦ l
      ]

  -- what it says of a node that it is ready
  pub record Ready (taken : ℕ → Bool) (v : ℕ) : Type 0 where
    pub black' : T (m v)
    pub fresh : T (taken v) → ⊥
    pub last : (w : ℕ) → (T (taken w) → ⊥) → T (adj v w) → ⊥

  ready_elim : (taken : ℕ → Bool) (v : ℕ) → T (ready n adj m taken v) → Ready taken v
  unfolding ready
  ready_elim taken v r =
      let h = untaken_elim m taken v (search and_l) in
      record {
        black' = h.0;
        fresh = h.1;
        last = λ w t a. T_not (some_below n (λ u. not (taken u) && adj v u)) (and_r (untaken m taken v) (not (some_below n (λ u. not (taken u) && adj v u))) r)
            (some_intro n (λ u. not (taken u) && adj v u) w (inside w (ends v w a).1) (and_i (not (taken w)) (adj v w) (not_T (taken w) t) a));
      }

  -- where a node is untaken, one is ready: follow arcs to untaken nodes, as long as there are any
  ready_some : (taken : ℕ → Bool) (k u : ℕ) → span u < k → T (untaken m taken u) → (v : ℕ) × (v < n) × T (ready n adj m taken v)
  unfolding ready
  ready_some taken zero u h b = absurd (omega arith)
  ready_some taken (suc k) u h b = go (T_cases (some_below n (λ w. not (taken w) && adj u w))) (ready_some taken k)
    where
      go : T (some_below n (λ w. not (taken w) && adj u w)) ⊎ T (not (some_below n (λ w. not (taken w) && adj u w)))
          → ((u : ℕ) → span u < k → T (untaken m taken u) → (v : ℕ) × (v < n) × T (ready n adj m taken v)) → (v : ℕ) × (v < n) × T (ready n adj m taken v)
      go (inl s) f =
          let r = some_elim n (λ w. not (taken w) && adj u w) s in
          let a = and_r (not (taken r.0)) (adj u r.0) r.2 in
          f r.0 (omega (arith, span_falls u r.0 a)) (and_i (m r.0) (not (taken r.0)) (ends u r.0 a).1 (and_l (not (taken r.0)) (adj u r.0) r.2))
      go (inr s) f = (u, inside u (untaken_elim m taken u b).0, and_i (untaken m taken u) (not (some_below n (λ w. not (taken w) && adj u w))) b s)

  none_ready : (taken : ℕ → Bool) → ((v : ℕ) → v < n → T (ready n adj m taken v) → ⊥) → (u : ℕ) → T (untaken m taken u) → ⊥
  none_ready taken f u b = let s = ready_some taken (suc (span u)) u (omega arith) b in f s.0 s.1 s.2

  none_left : (taken : ℕ → Bool) → tally n (untaken m taken) ≤ 0 → (u : ℕ) → T (untaken m taken u) → ⊥
  none_left taken h u b = omega (arith, tally_pos n (untaken m taken) u (inside u (untaken_elim m taken u b).0) b)

  untaken_fewer : (taken : ℕ → Bool) (v : ℕ) → Ready taken v → tally n (untaken m (taking taken v)) < tally n (untaken m taken)
  untaken_fewer taken v r = elim (tally_cases n (untaken m (taking taken v)) (untaken m taken) (λ u _. less u)) [
    | inl a ↦ absurd ((untaken_elim m (taking taken v) v (a.0 v (inside v r.black') (untaken_intro m taken v r.black' r.fresh))).1 (or_l (eqb v v) (taken v) (eqb_refl v)))
    | inr l ↦ l
  ]
    where
      less : (u : ℕ) → T (untaken m (taking taken v) u) → T (untaken m taken u)
      less u h = let k = untaken_elim m (taking taken v) u h in untaken_intro m taken u k.0 (λ t. k.1 (or_r (eqb u v) (taken u) t))

  module _ (act : ℕ → Action) (A : ℕ) (arcs : (i u v x : ℕ) → i < A → T (touches (reduced_effects (act i)) v) → T (has (act i).pre u x) → T (m u) → T (m v) → u ≢ v → T (adj u v)) where
    -- the settled variables are those that are red or taken, and no arc leads from a taken one to an untaken one
    pub record Chosen (taken : ℕ → Bool) (Q : ℕ → Type 0) : Type 0 where
      pub shut : (u w : ℕ) → T (taken u) → (T (taken w) → ⊥) → T (adj u w) → ⊥
      pub out : (u : ℕ) → Q u → (T (m u) → ⊥) ⊎ T (taken u)
      pub in' : (u : ℕ) → (T (m u) → ⊥) ⊎ T (taken u) → Q u

    chosen_more : (taken : ℕ → Bool) (Q : ℕ → Type 0) (v : ℕ) → Chosen taken Q → Ready taken v → Chosen (taking taken v) (with Q v)
    chosen_more taken Q v C r = record {
      shut = λ u w t nw a. elim (or_cases (eqb u v) (taken u) t) [
        | inl e ↦ r.last w (λ z. nw (or_r (eqb w v) (taken w) z)) (subst (λ z. T (adj z w)) (eqb→eq u v e) a)
        | inr k ↦ C.shut u w k (λ z. nw (or_r (eqb w v) (taken w) z)) a
      ];
      out = λ u. elim [
        | inl e ↦ inr (or_l (eqb u v) (taken u) (rw e (eqb_refl v)))
        | inr q ↦ elim (C.out u q) [ inl b ↦ inl b | inr t ↦ inr (or_r (eqb u v) (taken u) t) ]
      ];
      in' = λ u. elim [
        | inl b ↦ inr (C.in' u (inl b))
        | inr t ↦ elim (or_cases (eqb u v) (taken u) t) [ inl e ↦ inl (eqb→eq u v e) | inr k ↦ inr (C.in' u (inr k)) ]
      ];
    }

    chosen_all : (taken : ℕ → Bool) (Q : ℕ → Type 0) → Chosen taken Q → ((u : ℕ) → T (untaken m taken u) → ⊥) → (u : ℕ) → Q u
    chosen_all taken Q C h u = elim (T_cases (taken u)) [ inl t ↦ C.in' u (inr t) | inr t ↦ C.in' u (inl (λ b. h u (and_i (m u) (not (taken u)) b t))) ]

    pub clients_first_ordered : (k : ℕ) (taken : ℕ → Bool) (Q : ℕ → Type 0) → Chosen taken Q → tally n (untaken m taken) ≤ k
        → Ordered act A m Q (clients_first n adj m k taken) × ((u : ℕ) → withs Q (clients_first n adj m k taken) u)
    unfolding clients_first
    clients_first_ordered zero taken Q C h = (tt, chosen_all taken Q C (none_left taken h))
    clients_first_ordered (suc k) taken Q C h = go (first n (ready n adj m taken)) (first_is n (ready n adj m taken)) (clients_first_ordered k)
      where
        body : Option ℕ → List ℕ
        body o = elim o [ none ↦ [] | some v ↦ v ∷ clients_first n adj m k (taking taken v) ]

        go : (o : Option ℕ) → First? n (ready n adj m taken) o
            → ((taken : ℕ → Bool) (Q : ℕ → Type 0) → Chosen taken Q → tally n (untaken m taken) ≤ k
            → Ordered act A m Q (clients_first n adj m k taken) × ((u : ℕ) → withs Q (clients_first n adj m k taken) u))
            → Ordered act A m Q (body o) × ((u : ℕ) → withs Q (body o) u)
        go none f rec = (tt, chosen_all taken Q C (none_ready taken f))
        go (some v) f rec =
            let r = ready_elim taken v f.passes in
            let R = rec (taking taken v) (with Q v) (chosen_more taken Q v C r) (omega (arith, untaken_fewer taken v r)) in (
              (
                r.black',
                λ q. elim (C.out v q) [ inl b ↦ b r.black' | inr t ↦ r.fresh t ],
                λ i b tv u x h q mu. elim (C.out u q) [ inl nb ↦ nb mu | inr t ↦ C.shut u v t r.fresh (arcs i u v x b tv h mu r.black' (λ e. r.fresh (rw e at t))) ],
                R.0,
              ),
              R.1,
            )

  -- each black node is taken once: the product over the order is the product over the black nodes
  pub clients_first_product : (count : ℕ → ℕ) (k : ℕ) (taken : ℕ → Bool) → tally n (untaken m taken) ≤ k
      → product count (clients_first n adj m k taken) ≡ times n (λ v. share (untaken m taken v) (count v))
  unfolding clients_first product share
  clients_first_product count zero taken h = sym (times_one n (λ v. share (untaken m taken v) (count v)) (λ v b. rw (F→false (untaken m taken v) (none_left taken h v)) refl))
  clients_first_product count (suc k) taken h = go (first n (ready n adj m taken)) (first_is n (ready n adj m taken)) (clients_first_product count k)
    where
      body : Option ℕ → List ℕ
      body o = elim o [ none ↦ [] | some v ↦ v ∷ clients_first n adj m k (taking taken v) ]

      go : (o : Option ℕ) → First? n (ready n adj m taken) o
          → ((taken : ℕ → Bool) → tally n (untaken m taken) ≤ k → product count (clients_first n adj m k taken) ≡ times n (λ v. share (untaken m taken v) (count v)))
          → product count (body o) ≡ times n (λ v. share (untaken m taken v) (count v))
      go none f rec = sym (times_one n (λ v. share (untaken m taken v) (count v)) (λ v b. rw (F→false (untaken m taken v) (none_ready taken f v)) refl))
      go (some v) f rec =
          let r = ready_elim taken v f.passes in
          let sp = times_split n (λ u. share (untaken m taken u) (count u)) (λ u. share (untaken m (taking taken v) u) (count u)) v (inside v r.black')
          (rw (T→true (eqb v v) (eqb_refl v), and-false (m v)) refl) (λ i b ne. rw (F→false (eqb i v) (λ t. ne (eqb→eq i v t))) refl) in
          rw (rec (taking taken v) (omega (arith, untaken_fewer taken v r))) (sym (rw (T→true (untaken m taken v) (untaken_intro m taken v r.black' r.fresh)) at sp))

  -- and there are no more of them than black nodes
  pub clients_first_length : (k : ℕ) (taken : ℕ → Bool) → length (clients_first n adj m k taken) ≤ tally n (untaken m taken)
  unfolding clients_first
  clients_first_length zero taken = omega arith
  clients_first_length (suc k) taken = go (first n (ready n adj m taken)) (first_is n (ready n adj m taken)) (clients_first_length k)
    where
      go : (o : Option ℕ) → First? n (ready n adj m taken) o → ((taken : ℕ → Bool) → length (clients_first n adj m k taken) ≤ tally n (untaken m taken))
          → length {A = ℕ} (elim o [ none ↦ [] | some v ↦ v ∷ clients_first n adj m k (taking taken v) ]) ≤ tally n (untaken m taken)
      go none f rec = omega arith
      go (some v) f rec = omega (arith, untaken_fewer taken v (ready_elim taken v f.passes), rec (taking taken v))
