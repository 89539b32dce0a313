-- Reachability in a finite graph, by a number of moves. Below n nodes n − 1 moves are enough: from k to k + 1 moves the set of nodes
-- from which d is reached gains a node or stays the same, and once it stays the same it stays so for ever; and it has d at the start.
use Prim.Native.Nat.{ℕ, zero, suc, ◌<◌, pred}
use mathlib.Core.Path.{◌≡◌}
use mathlib.Core.Logic.{◌⊎◌, inl, inr}
use mathlib.Core.Bool.{Bool, ◌&&◌}
use lib.Dec.{T, eqb, eqb→eq, eqb_refl}
use native.Mathlib.Omega.{arith}
use Rattle.planning.specs.Basics.{some_below, tally, reach}
use Rattle.planning.specs.Painting.{on_cycle}
use Rattle.laws.proofs.Tests.{or_l, or_r, or_cases, and_l, and_r, and_i}
use Rattle.laws.proofs.Below.{some_intro, some_elim, tally_cases, tally_full, tally_pos}

module _ (n : ℕ) (adj : ℕ → ℕ → Bool) where
  pub reach_here : (k c : ℕ) → T (reach n adj k c c)
  unfolding reach
  reach_here zero c = eqb_refl c
  reach_here (suc k) c = or_l (eqb c c) (some_below n (λ e. adj c e && reach n adj k e c)) (eqb_refl c)

  pub reach_move : (k c e d : ℕ) → e < n → T (adj c e) → T (reach n adj k e d) → T (reach n adj (suc k) c d)
  unfolding reach
  reach_move k c e d b h r = or_r (eqb c d) (some_below n (λ e. adj c e && reach n adj k e d)) (some_intro n (λ e. adj c e && reach n adj k e d) e b (and_i (adj c e) (reach n adj k e d) h r))

  pub reach_cases : (k c d : ℕ) → T (reach n adj (suc k) c d) → (c ≡ d) ⊎ ((e : ℕ) × (e < n) × T (adj c e) × T (reach n adj k e d))
  unfolding reach
  reach_cases k c d t = go (or_cases (eqb c d) (some_below n (λ e. adj c e && reach n adj k e d)) t)
    where
      go : T (eqb c d) ⊎ T (some_below n (λ e. adj c e && reach n adj k e d)) → (c ≡ d) ⊎ ((e : ℕ) × (e < n) × T (adj c e) × T (reach n adj k e d))
      go (inl h) = inl (eqb→eq c d h)
      go (inr h) =
          let r = some_elim n (λ e. adj c e && reach n adj k e d) h in
          inr (r.0, r.1, and_l (adj c r.0) (reach n adj k r.0 d) r.2, and_r (adj c r.0) (reach n adj k r.0 d) r.2)

  pub reach_zero : (c d : ℕ) → T (reach n adj zero c d) → c ≡ d
  unfolding reach
  reach_zero c d t = eqb→eq c d t

  pub reach_suc : (k c d : ℕ) → T (reach n adj k c d) → T (reach n adj (suc k) c d)
  reach_suc zero c d t = rw (reach_zero c d t) (reach_here 1 d)
  reach_suc (suc k) c d t = go (reach_cases k c d t) (reach_suc k)
    where
      go : (c ≡ d) ⊎ ((e : ℕ) × (e < n) × T (adj c e) × T (reach n adj k e d)) → ((c d : ℕ) → T (reach n adj k c d) → T (reach n adj (suc k) c d)) → T (reach n adj (suc (suc k)) c d)
      go (inl e) f = rw e (reach_here (suc (suc k)) d)
      go (inr r) f = reach_move (suc k) c r.0 d r.1 r.2 (f r.0 d r.3)

  module _ (d : ℕ) (inside : d < n) where
    -- no node comes with the next move: none ever comes
    pub reach_stable : (k : ℕ) → ((c : ℕ) → c < n → T (reach n adj (suc k) c d) → T (reach n adj k c d)) → (j c : ℕ) → c < n → T (reach n adj j c d) → T (reach n adj k c d)
    reach_stable k h zero c b t = rw (reach_zero c d t) (reach_here k d)
    reach_stable k h (suc j) c b t = go (reach_cases j c d t) (reach_stable k h j)
      where
        go : (c ≡ d) ⊎ ((e : ℕ) × (e < n) × T (adj c e) × T (reach n adj j e d)) → ((c : ℕ) → c < n → T (reach n adj j c d) → T (reach n adj k c d)) → T (reach n adj k c d)
        go (inl e) f = rw e (reach_here k d)
        go (inr r) f = h c b (reach_move k c r.0 d r.1 r.2 (f r.0 r.1 r.3))

    reach_grows : (k : ℕ) → ((j c : ℕ) → c < n → T (reach n adj j c d) → T (reach n adj k c d)) ⊎ (k < tally n (λ c. reach n adj k c d))
    reach_grows zero = inr (tally_pos n (λ c. reach n adj 0 c d) d inside (reach_here 0 d))
    reach_grows (suc k) = elim (reach_grows k) [
      | inl f ↦ inl (λ j c b t. reach_suc k c d (f j c b t))
      | inr h ↦ elim (tally_cases n (λ c. reach n adj k c d) (λ c. reach n adj (suc k) c d) (λ c _ t. reach_suc k c d t)) [
        | inl a ↦ inl (λ j c b t. reach_suc k c d (reach_stable k a.0 j c b t))
        | inr l ↦ inr (omega arith)
      ]
    ]

    pub reach_bound : (k : ℕ) → n ≡ suc k → (j c : ℕ) → c < n → T (reach n adj j c d) → T (reach n adj k c d)
    reach_bound k e j c b t = elim (reach_grows k) [ inl f ↦ f j c b t | inr h ↦ tally_full n (λ c. reach n adj k c d) (omega arith) c b ]

-- any way back makes a cycle, however long
pub on_cycle_of : (n : ℕ) (adj : ℕ → ℕ → Bool) (v u k : ℕ) → v < n → u < n → T (adj v u) → T (reach n adj k u v) → T (on_cycle n adj v)
unfolding on_cycle
on_cycle_of n adj v u k vb ub a r =
    some_intro n (λ u. adj v u && reach n adj (pred n) u v) u ub (and_i (adj v u) (reach n adj (pred n) u v) a (reach_bound n adj v vb (pred n) (omega arith) k u ub r))
