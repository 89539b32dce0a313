-- Leads kept in one list: those of one slot are written, and the other slots stand.
use mathlib.Core.Path.{◌≡◌, refl, sym, ap, ◌∙◌, subst}
use mathlib.Core.Logic.{◌⊎◌, inl, inr, ◌≢◌}
use mathlib.Core.Bool.{Bool, true, false, not}
use mathlib.Core.List.{List}
use Prim.Native.Nat.{ℕ, ◌+◌, ◌*◌, ◌%◌, ◌<◌, ◌≤◌}
use native.Mathlib.Omega.{arith}
use native.Mathlib.Decide.{ℕ_discrete, dec_lt}
use borrow.Author.Tests.{ltb-true, lt-ltb}
use lib.Dec.{T, T_not, ltb}
use lib.ListN.{length, get_or, set, length-set}
use lib.Seq.{get_or-set_same, get_or-set_other}
use Rattle.planning.specs.Basics.{some_below}
use Rattle.planning.specs.Record.{Task}
use Rattle.planning.specs.Runs.{State, variables, count, black}
use Rattle.laws.proofs.Tests.{T→true, true→T, F→false, T_cases}
use Rattle.laws.proofs.Below.{some_intro, some_elim}
use Rattle.laws.proofs.Formed.{Formed}
use Rattle.laws.proofs.Painting.{black_inside}
use Rattle.sets.specs.Sets.{in_set}
use Rattle.search.specs.Search.{Done, Settled}
use Rattle.paths.specs.Paths.{lead_to, unknown, lead_by, Leads, few_values, memo_for, slot, lead_in, Memo, Leading}
use Rattle.paths.proofs.Labels.{settled_lead}
use Rattle.paths.proofs.Walking.{lead_moves}

-- variables before v have few values; the search for one with more, and its end
module _ (t : Task) where
  abbrev many : ℕ → Bool
  many v = ltb 15 (count t v)

  pub values_many : (v : ℕ) → v < variables t → 15 < count t v → false ≡ few_values t
  unfolding few_values
  values_many v h q = rw (T→true (some_below (variables t) many) (some_intro (variables t) many v h (true→T (many v) (lt-ltb 15 (count t v) q)))) refl

  pub values_few : ((v : ℕ) → v < variables t → count t v ≤ 15) → true ≡ few_values t
  unfolding few_values
  values_few h = rw (F→false (some_below (variables t) many) (λ x. none (some_elim (variables t) many x))) refl
    where
      none : (v : ℕ) × (v < variables t) × T (many v) → ⊥
      none w = omega (arith, h w.0 w.1, ltb-true 15 (count t w.0) (T→true (many w.0) w.2))

-- a memo has room for its marks and for the leads of each variable
module _ (t : Task) where
  pub memo_marks : 1024 ≤ memo_for t
  unfolding memo_for
  memo_marks = go (few_values t)
    where
      go : (b : Bool) → 1024 ≤ elim b [ true ↦ 1024 | false ↦ 4160 ]
      go true = omega arith
      go false = omega arith

  memo_values : (v : ℕ) → v < variables t → count t v ≤ 64 → 64 * (count t v + 1) ≤ memo_for t
  unfolding memo_for
  memo_values v h few = go (few_values t) refl
    where
      small : Dec (15 < count t v) → few_values t ≡ true → 64 * (count t v + 1) ≤ 1024
      small (no q) e = omega arith
      small (yes q) e = absurd (subst T (sym (values_many t v h q ∙ e)) tt)

      go : (b : Bool) → few_values t ≡ b → 64 * (count t v + 1) ≤ elim b [ true ↦ 1024 | false ↦ 4160 ]
      go true e = small (dec_lt 15 (count t v)) e
      go false e = omega arith

  pub memo_lead : (v c k : ℕ) → T (black t v) → c < count t v → count t v ≤ 64 → k < 64 → 64 * (c + 1) + k < memo_for t
  memo_lead v c k bl b few kb = omega (arith, memo_values v (black_inside t v bl) few)

pub slot_below : (v d : ℕ) → slot v d < 64
unfolding slot
slot_below v d = omega arith

slot_apart : (v d e : ℕ) → d < 64 → e < 64 → slot v d ≡ slot v e → d ≡ e
unfolding slot
slot_apart v d e db eb h = omega arith

-- the leads of the values below x are written to slot k, and what stands in other slots is as it was
pub record Filling (labels : List ℕ) (rest k : ℕ) (memo₀ memo : List ℕ) (x : ℕ) : Type 0 where
  pub long : length memo ≡ length memo₀
  pub others : (p : ℕ) → p % 64 ≢ k → get_or memo p 0 ≡ get_or memo₀ p 0
  pub filled : (y : ℕ) → y < x → lead_in memo k y ≡ lead_by (in_set rest y) (get_or labels y 0) y

module _ (labels : List ℕ) (rest k : ℕ) (kb : k < 64) (memo₀ memo : List ℕ) (x : ℕ) (R : Filling labels rest k memo₀ memo x) where
  pub filling_turn : (w : ℕ) → 64 * (x + 1) + k < length memo₀ → w ≡ lead_by (in_set rest x) (get_or labels x 0) x → Filling labels rest k memo₀ (set memo (64 * (x + 1) + k) w) (x + 1)
  filling_turn w b e = record {
    long = length-set memo (64 * (x + 1) + k) w ∙ R.long;
    others = λ p n. get_or-set_other memo (64 * (x + 1) + k) p w 0 (λ q. n (omega (arith, q))) ∙ R.others p n;
    filled = λ y l. go y l (ℕ_discrete y x);
  }
    where
      go : (y : ℕ) → y < x + 1 → Dec (y ≡ x) → lead_in (set memo (64 * (x + 1) + k) w) k y ≡ lead_by (in_set rest y) (get_or labels y 0) y
      go y l (yes q) = rw q (get_or-set_same memo (64 * (x + 1) + k) w 0 (omega (arith, R.long)) ∙ e)
      go y l (no q) = get_or-set_other memo (64 * (x + 1) + k) (64 * (y + 1) + k) w 0 (λ z. q (omega (arith, z))) ∙ R.filled y (omega arith)

-- the same leads in another place
leads_same : (t : Task) (K : State) (v d : ℕ) (lead lead' : ℕ → ℕ) → ((c : ℕ) → lead' c ≡ lead c) → Leads t K v d lead → Leads t K v d lead'
leads_same t K v d lead lead' same L c cb k =
    let r = L c cb (λ q. k (same c ∙ q)) in
    (same c ∙ r.0, λ q. r.1 (sym (same (lead_to t K v d c % 64)) ∙ q))

-- where they are all written, those of settled values are known
module _ (t : Task) (F : Formed t) (K : State) (v d : ℕ) (db : d < count t v) (labels : List ℕ) (rest : ℕ) (S : Settled t K v d labels rest) (k : ℕ) (ek : k ≡ slot v d) (memo₀ memo : List ℕ)
    (R : Filling labels rest k memo₀ memo (count t v)) where
  known : (c : ℕ) → c < count t v → Done rest c → (lead_in memo k c ≡ lead_to t K v d c) × (lead_in memo k c ≢ unknown c)
  known c cb o = (e, λ q. lead_moves t F K v d c cb (sym e ∙ q))
    where
      e : lead_in memo k c ≡ lead_to t K v d c
      e = R.filled c cb ∙ ap (λ b. lead_by b (get_or labels c 0) c) (F→false (in_set rest c) o) ∙ (settled_lead t F K v d db labels rest S c cb o).0

  leads_filled : Leads t K v d (lead_in memo k)
  unfolding lead_by
  leads_filled x xb n = go (T_cases (in_set rest x))
    where
      go : T (in_set rest x) ⊎ T (not (in_set rest x)) → (lead_in memo k x ≡ lead_to t K v d x) × (lead_in memo k (lead_to t K v d x % 64) ≢ unknown (lead_to t K v d x % 64))
      go (inl r) = absurd (n (R.filled x xb ∙ ap (λ b. lead_by b (get_or labels x 0) x) (T→true (in_set rest x) r)))
      go (inr r) =
          let f : Done rest x = T_not (in_set rest x) r in
          let l = settled_lead t F K v d db labels rest S x xb f in
          ((known x xb f).0, (known (lead_to t K v d x % 64) l.2 l.1).1)

  -- then the mark
  module _ (M : Memo t K memo₀) (m : ℕ) (em : m ≡ v + 1) where
    abbrev marked : List ℕ
    marked = set memo k m

    kb : k < 64
    kb = rw ek (slot_below v d)

    lead_kept : (j c : ℕ) → lead_in marked j c ≡ lead_in memo j c
    lead_kept j c = get_or-set_other memo k (64 * (c + 1) + j) m 0 (λ q. omega (arith, q, kb))

    own_mark : get_or marked k 0 ≡ v + 1
    own_mark = get_or-set_same memo k m 0 (omega (arith, R.long, M.long, memo_marks t, kb)) ∙ em

    other_mark : (j : ℕ) → j < 64 → (j ≡ k → ⊥) → get_or marked j 0 ≡ get_or memo₀ j 0
    other_mark j b n = get_or-set_other memo k j m 0 n ∙ R.others j (λ q. n (omega (arith, q)))

    other_lead : (j : ℕ) → j < 64 → (j ≡ k → ⊥) → (c : ℕ) → lead_in marked j c ≡ lead_in memo₀ j c
    other_lead j b n c = lead_kept j c ∙ R.others (64 * (c + 1) + j) (λ q. n (omega (arith, q)))

    slots_filled : ((u : ℕ) → count t u ≤ 64) → (u e : ℕ) → T (black t u) → e < 64 → get_or marked (slot u e) 0 ≡ u + 1 → Dec (slot u e ≡ k) → Leads t K u e (lead_in marked (slot u e))
    slots_filled small u e ub eb h (no q) =
        leads_same t K u e (lead_in memo₀ (slot u e)) (lead_in marked (slot u e)) (other_lead (slot u e) (slot_below u e) q)
        (M.leads u e ub eb (sym (other_mark (slot u e) (slot_below u e) q) ∙ h))
    slots_filled small u e ub eb h (yes q) =
        let w : u + 1 ≡ v + 1 = sym h ∙ ap (λ (j : ℕ). get_or marked j 0) q ∙ own_mark in
        let eu : u ≡ v = omega (arith, w) in
        let ee : e ≡ d = slot_apart v e d eb (omega (arith, small v)) (subst (λ (x : ℕ). slot x e ≡ slot v d) eu (q ∙ ek)) in
        rw (eu, ee, ← ek) (leads_same t K v d (lead_in memo k) (lead_in marked k) (lead_kept k) leads_filled)

    pub memo_filled : ((u : ℕ) → count t u ≤ 64) → (c : ℕ) → c < count t v → Done rest c → Memo t K (set memo k m) × Leading (set memo k m) v c d
    memo_filled small c cb o = (
      record { long = length-set memo k m ∙ R.long ∙ M.long; leads = λ u e ub eb h. slots_filled small u e ub eb h (ℕ_discrete (slot u e) k) },
      rw (← ek) (own_mark, λ q. (known c cb o).1 (sym (lead_kept k c) ∙ q)),
    )

-- the slot by another name
module _ (memo : List ℕ) (v c d k : ℕ) (e : k ≡ slot v d) where
  pub leading : get_or memo k 0 ≡ v + 1 → lead_in memo k c ≢ unknown c → Leading memo v c d
  leading m l = rw (← e) (m, l)

  pub leading_leads : (t : Task) (K : State) → Memo t K memo → T (black t v) → d < 64 → Leading memo v c d → Leads t K v d (lead_in memo k) × (lead_in memo k c ≢ unknown c)
  leading_leads t K M bl b L = rw e (M.leads v d bl b L.0, L.1)
