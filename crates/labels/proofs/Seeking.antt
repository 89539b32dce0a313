-- The nearest of a set: the members that came have no lesser label than the one at r.
use Rattle.std.proofs.Common.{◌≡◌, List, ℕ, ◌<◌, ◌≤◌, T, arith, get_or}
use Rattle.sets.specs.Sets.{in_set}
use Rattle.sets.proofs.Members.{in_set_empty}
use Rattle.labels.specs.Labels.{Least}

-- the nearest of the members that came, its label m, and the set of those still to come
pub record Seeking (labels : List ℕ) (front r m rest : ℕ) : Type 0 where
  pub inside : (x : ℕ) → T (in_set rest x) → T (in_set front x)
  pub within : r < 64
  pub member : T (in_set front r)
  pub label : m ≡ get_or labels r 0
  pub least : (x : ℕ) → (T (in_set rest x) → ⊥) → T (in_set front x) → m ≤ get_or labels x 0

module _ (labels : List ℕ) (front : ℕ) where
  pub seeking_none : front ≡ 0 → (c : ℕ) → c < 64 → T (in_set front c) → ⊥
  seeking_none e c b h = rw (e, in_set_empty) at h

  pub seeking_end : (r m s : ℕ) → Seeking labels front r m s → s ≡ 0 → Least labels front r
  seeking_end r m s S e = record {
    within = S.within;
    member = S.member;
    least = λ x b i. omega (arith, S.label, S.least x (λ h. rw (e, in_set_empty) at h) i);
  }
