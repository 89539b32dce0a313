-- Tests, sums and products over the numbers below a bound. The law that carries the proofs above is tally_cases: a set within
-- another has the same elements, or strictly fewer. It proves path lengths, the end of the forward run and the clients-first order.
use Prim.Native.Nat.{ℕ, zero, suc, ◌+◌, ◌*◌, ◌≤◌, ◌<◌, pred}
use mathlib.Core.Path.{◌≡◌, refl, sym, ap, subst}
use mathlib.Core.Logic.{◌⊎◌, inl, inr, ◌≢◌}
use mathlib.Core.Bool.{Bool, true, false}
use mathlib.Core.Option.{Option, none, some}
use lib.Dec.{T}
use native.Mathlib.Omega.{arith}
use native.Mathlib.Decide.{ℕ_discrete, dec_lt}
use native.Mathlib.Nat.{mul_assoc}
use Rattle.planning.specs.Basics.{some_below, one_if, tally, first, total, times}
use Rattle.laws.proofs.Tests.{T→true, true→T, F→false, false→F, or_l, or_r, or_cases}

-- below a successor
pub below_cases : (i n : ℕ) → i < suc n → (i < n) ⊎ (i ≡ n)
below_cases i n h = go (ℕ_discrete i n)
  where
    go : Dec (i ≡ n) → (i < n) ⊎ (i ≡ n)
    go (yes e) = inr e
    go (no e) = inl (omega arith)

pub some_intro : (n : ℕ) (p : ℕ → Bool) (i : ℕ) → i < n → T (p i) → T (some_below n p)
unfolding some_below
some_intro zero p i h t = omega arith
some_intro (suc n) p i h t = elim (below_cases i n h) [ inl k ↦ or_l (some_below n p) (p n) (some_intro n p i k t) | inr e ↦ or_r (some_below n p) (p n) (rw e at t) ]

pub some_elim : (n : ℕ) (p : ℕ → Bool) → T (some_below n p) → (i : ℕ) × (i < n) × T (p i)
unfolding some_below
some_elim zero p t = absurd t
some_elim (suc n) p t = go (or_cases (some_below n p) (p n) t) (some_elim n p)
  where
    go : T (some_below n p) ⊎ T (p n) → (T (some_below n p) → (i : ℕ) × (i < n) × T (p i)) → (i : ℕ) × (i < suc n) × T (p i)
    go (inl h) k = let r = k h in (r.0, omega arith, r.2)
    go (inr h) k = (n, omega arith, h)

-- the same tests, the same answer
pub some_same : (n : ℕ) (p q : ℕ → Bool) → ((i : ℕ) → i < n → p i ≡ q i) → some_below n p ≡ some_below n q
unfolding some_below
some_same zero p q h = refl
some_same (suc n) p q h = rw (some_same n p q (λ i b. h i (omega arith)), h n (omega arith)) refl

pub some_true : (n : ℕ) (p : ℕ → Bool) (i : ℕ) → i < n → p i ≡ true → some_below n p ≡ true
some_true n p i b e = T→true (some_below n p) (some_intro n p i b (true→T (p i) e))

pub some_false : (n : ℕ) (p : ℕ → Bool) → ((i : ℕ) → i < n → p i ≡ false) → some_below n p ≡ false
some_false n p f = F→false (some_below n p) (λ t. let r = some_elim n p t in false→F (p r.0) (f r.0 r.1) r.2)

pub record First (n : ℕ) (p : ℕ → Bool) (i : ℕ) : Type 0 where
  pub below : i < n
  pub passes : T (p i)
  pub least : (j : ℕ) → j < i → T (p j) → ⊥

abbrev pub First? : (n : ℕ) (p : ℕ → Bool) → Option ℕ → Type 0
First? n p none = (i : ℕ) → i < n → T (p i) → ⊥
First? n p (some i) = First n p i

pub first_is : (n : ℕ) (p : ℕ → Bool) → First? n p (first n p)
unfolding first
first_is zero p = λ i h t. omega arith
first_is (suc n) p = go (first n p) (first_is n p)
  where
    pick : (b : Bool) → p n ≡ b → ((i : ℕ) → i < n → T (p i) → ⊥) → First? (suc n) p (elim b [ true ↦ some n | false ↦ none ])
    pick true e h = record { below = omega arith; passes = rw e tt; least = h }
    pick false e h = λ i k t. elim (below_cases i n k) [ inl l ↦ h i l t | inr q ↦ rw (q, e) at t ]

    go : (o : Option ℕ) → First? n p o → First? (suc n) p (elim o [ some i ↦ some i | none ↦ elim (p n) [ true ↦ some n | false ↦ none ] ])
    go (some i) h = let b : i < n = h.below in record { below = omega arith; passes = h.passes; least = h.least }
    go none h = pick (p n) refl h

pub first_none : (n : ℕ) (p : ℕ → Bool) → first n p ≡ none → (i : ℕ) → i < n → T (p i) → ⊥
first_none n p e = subst (First? n p) e (first_is n p)

-- the least number that passes, named
pub first_some_is : (n : ℕ) (p : ℕ → Bool) (i : ℕ) → First n p i → first n p ≡ some i
first_some_is n p i F = go (first n p) (first_is n p)
  where
    go : (o : Option ℕ) → First? n p o → o ≡ some i
    go none h = absurd (h i F.below F.passes)
    go (some j) G = go₂ (ℕ_discrete j i) (dec_lt j i)
      where
        go₂ : Dec (j ≡ i) → Dec (j < i) → some j ≡ some i
        go₂ (yes e) d = ap some e
        go₂ (no q) (yes l) = absurd (F.least j l G.passes)
        go₂ (no q) (no l) = absurd (G.least i (omega arith) F.passes)

pub first_none_is : (n : ℕ) (p : ℕ → Bool) → ((i : ℕ) → i < n → T (p i) → ⊥) → first n p ≡ none
first_none_is n p h = go (first n p) (first_is n p)
  where
    go : (o : Option ℕ) → First? n p o → o ≡ none
    go none k = refl
    go (some j) G = absurd (h j G.below G.passes)

pub first_same : (n : ℕ) (p q : ℕ → Bool) → ((i : ℕ) → i < n → p i ≡ q i) → first n p ≡ first n q
first_same n p q h = go (first n q) (first_is n q)
  where
    go : (o : Option ℕ) → First? n q o → first n p ≡ o
    go none f = first_none_is n p (λ i b t. f i b (subst T (h i b) t))
    go (some i) F =
        let b : i < n = F.below in
        first_some_is n p i (record { below = b; passes = subst T (sym (h i b)) F.passes; least = λ j l t. F.least j l (subst T (h j (omega arith)) t) })

pub one_if_le : (b : Bool) → one_if b ≤ 1
unfolding one_if
one_if_le true = omega arith
one_if_le false = omega arith

pub tally_le : (n : ℕ) (p : ℕ → Bool) → tally n p ≤ n
unfolding tally
tally_le zero p = omega arith
tally_le (suc n) p = omega (arith, tally_le n p, one_if_le (p n))

pub tally_none : (n : ℕ) (p : ℕ → Bool) → ((i : ℕ) → i < n → p i ≡ false) → tally n p ≡ 0
unfolding tally one_if
tally_none zero p h = refl
tally_none (suc n) p h = rw (tally_none n p (λ i b. h i (omega arith)), h n (omega arith)) refl

-- a set within another is no larger, and is the same or smaller
pub one_if_cases : (a b : Bool) → (T a → T b) → ((T b → T a) × (one_if a ≡ one_if b)) ⊎ (one_if a < one_if b)
unfolding one_if
one_if_cases true true h = inl (λ t. t, refl)
one_if_cases true false h = absurd (h tt)
one_if_cases false true h = inr (omega arith)
one_if_cases false false h = inl (λ t. t, refl)

pub tally_cases : (n : ℕ) (p q : ℕ → Bool) → ((i : ℕ) → i < n → T (p i) → T (q i)) → (((i : ℕ) → i < n → T (q i) → T (p i)) × (tally n p ≡ tally n q)) ⊎ (tally n p < tally n q)
unfolding tally
tally_cases zero p q h = inl (λ i k t. absurd (omega arith), refl)
tally_cases (suc n) p q h = go (tally_cases n p q (λ i k. h i (omega arith))) (one_if_cases (p n) (q n) (h n (omega arith)))
  where
    go : (((i : ℕ) → i < n → T (q i) → T (p i)) × (tally n p ≡ tally n q)) ⊎ (tally n p < tally n q) → ((T (q n) → T (p n)) × (one_if (p n) ≡ one_if (q n))) ⊎ (one_if (p n) < one_if (q n))
        → (((i : ℕ) → i < suc n → T (q i) → T (p i)) × (tally n p + one_if (p n) ≡ tally n q + one_if (q n))) ⊎ (tally n p + one_if (p n) < tally n q + one_if (q n))
    go (inl a) (inl b) = inl (λ i k t. elim (below_cases i n k) [ inl l ↦ a.0 i l t | inr e ↦ rw e (b.0 (rw e at t)) ], omega arith)
    go (inl a) (inr b) = inr (omega arith)
    go (inr a) (inl b) = inr (omega arith)
    go (inr a) (inr b) = inr (omega arith)

pub tally_full : (n : ℕ) (p : ℕ → Bool) → n ≤ tally n p → (i : ℕ) → i < n → T (p i)
tally_full n p h i k = elim (tally_cases n p (λ _. true) (λ _ _ _. tt)) [ inl a ↦ a.0 i k tt | inr b ↦ absurd (omega (arith, tally_le n (λ _. true))) ]

pub tally_pos : (n : ℕ) (p : ℕ → Bool) (i : ℕ) → i < n → T (p i) → 0 < tally n p
tally_pos n p i k t = elim (tally_cases n (λ _. false) p (λ _ _ z. absurd z)) [ inl a ↦ absurd (a.0 i k t) | inr b ↦ omega arith ]

pub tally_sub : (n : ℕ) (p q : ℕ → Bool) → ((i : ℕ) → i < n → T (p i) → T (q i)) → tally n p ≤ tally n q
tally_sub n p q h = elim (tally_cases n p q h) [ inl a ↦ let e = a.1 in omega arith | inr b ↦ omega arith ]

-- sums and products
pub total_same : (n : ℕ) (f g : ℕ → ℕ) → ((v : ℕ) → v < n → f v ≡ g v) → total n f ≡ total n g
unfolding total
total_same zero f g h = refl
total_same (suc n) f g h = omega (arith, total_same n f g (λ v k. h v (omega arith)), h n (omega arith))

pub total_le : (n : ℕ) (f g : ℕ → ℕ) → ((v : ℕ) → v < n → f v ≤ g v) → total n f ≤ total n g
unfolding total
total_le zero f g h = omega arith
total_le (suc n) f g h = omega (arith, total_le n f g (λ v k. h v (omega arith)), h n (omega arith))

pub total_max : (n c : ℕ) (f : ℕ → ℕ) → ((v : ℕ) → f v ≤ c) → total n f ≤ n * c
unfolding total
total_max zero c f h = omega arith
total_max (suc n) c f h = omega (arith, total_max n c f h, h n)

pub total_lt : (n : ℕ) (f g : ℕ → ℕ) → ((v : ℕ) → v < n → f v ≤ g v) → (v : ℕ) → v < n → f v < g v → total n f < total n g
unfolding total
total_lt zero f g h v k l = absurd (omega arith)
total_lt (suc n) f g h v k l = elim (below_cases v n k) [
  | inl b ↦ omega (arith, total_lt n f g (λ v k. h v (omega arith)) v b l, h n (omega arith))
  | inr e ↦ let z : f n < g n = rw e at l in omega (arith, total_le n f g (λ v k. h v (omega arith)))
]

pub total_pred : (n : ℕ) (f : ℕ → ℕ) → ((v : ℕ) → 0 < f v) → total n f ≡ n + total n (λ v. pred (f v))
unfolding total
total_pred zero f h = refl
total_pred (suc n) f h = omega (arith, total_pred n f h, h n)

pub total_one : (n : ℕ) → total n (λ _. 1) ≡ n
unfolding total
total_one zero = refl
total_one (suc n) = omega (arith, total_one n)

pub times_same : (n : ℕ) (f g : ℕ → ℕ) → ((i : ℕ) → i < n → f i ≡ g i) → times n f ≡ times n g
unfolding times
times_same zero f g h = refl
times_same (suc n) f g h = rw (times_same n f g (λ i b. h i (omega arith)), h n (omega arith)) refl

pub times_one : (n : ℕ) (f : ℕ → ℕ) → ((i : ℕ) → i < n → f i ≡ 1) → times n f ≡ 1
unfolding times
times_one zero f h = refl
times_one (suc n) f h = rw (times_one n f (λ i b. h i (omega arith)), h n (omega arith)) refl

pub times_split : (n : ℕ) (f g : ℕ → ℕ) (v : ℕ) → v < n → g v ≡ 1 → ((i : ℕ) → i < n → i ≢ v → f i ≡ g i) → times n f ≡ f v * times n g
unfolding times
times_split zero f g v b e h = absurd (omega arith)
times_split (suc n) f g v b e h = elim (below_cases v n b) [
  | inl l ↦ rw (times_split n f g v l e (λ i b. h i (omega arith)), h n (omega arith) (omega arith)) (mul_assoc (f v) (times n g) (g n))
  | inr q ↦ let z : g n ≡ 1 = subst (λ x. g x ≡ 1) q e in rw (times_same n f g (λ i b. h i (omega arith) (omega arith)), q, z) (omega arith)
]
