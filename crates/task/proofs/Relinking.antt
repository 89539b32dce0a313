-- What is written into the parts for chains and order leaves the task alone: all that the task is read from lies outside of them.
use mathlib.Core.Path.{◌≡◌, refl, sym, ap, ◌∙◌, subst}
use mathlib.Core.Logic.{◌⊎◌, inl, inr}
use mathlib.Core.List.{List}
use Prim.Native.Nat.{ℕ, zero, suc, ◌+◌, ◌-◌, ◌*◌, ◌<◌, ◌≤◌}
use native.Mathlib.Omega.{arith}
use lib.ListN.{length, get_or, set, length-set}
use lib.Seq.{slice, slice-cons, slice_empty, get_or-set_same, get_or-set_other}
use Rattle.planning.specs.Runs.{variables, actions}
use Rattle.task.specs.Task.{links_end, cell, heads_at, facts_in, variable_in, action_in, each, task_in, pre_at, eff_at, end_at, Row, Heads, Loaded, order_from, nexts_from, action_rows}
use Rattle.task.specs.Links.{head_at, next_at, Link, Relinked, linked}
use Rattle.task.proofs.Reading.{task_in_variables, task_in_actions}

-- the place of the heads is kept
pub relinked_heads : (before after : List ℕ) → Relinked before after → heads_at after ≡ heads_at before
relinked_heads before after R = R.kept 3 apart
  where
    apart : Link before 3 → ⊥
    apart (inl e) = omega arith
    apart (inr e) = omega (arith, e.0)

link_back : (before after : List ℕ) → Relinked before after → (k : ℕ) → Link after k → Link before k
link_back before after R k l = subst (λ (h : ℕ). (k ≡ 2) ⊎ ((order_from ≤ k) × ((k < links_end) ⊎ (h ≤ k)))) (relinked_heads before after R) l

pub heads_fewer : (m n : ℕ) (task : List ℕ) → m ≤ n → Heads n task → Heads m task
heads_fewer m n task l H = record { behind = H.behind; room = omega (arith, H.room) }

pub heads_kept : (n : ℕ) (before after : List ℕ) → Relinked before after → Heads n before → Heads n after
heads_kept n before after R H = let e = relinked_heads before after R in record { behind = omega (arith, H.behind); room = omega (arith, H.room, R.long) }

pub relinked_none : (task : List ℕ) → Relinked task task
relinked_none task = record { long = refl; kept = λ k h. refl }

pub relinked_set : (before after : List ℕ) (k w : ℕ) → Link before k → Relinked before after → Relinked before (set after k w)
relinked_set before after k w l R = record {
  long = length-set after k w ∙ R.long;
  kept = λ j h. get_or-set_other after k j w 0 (λ q. h (rw q l)) ∙ R.kept j h;
}

pub relinked_trans : (a b c : List ℕ) → Relinked a b → Relinked b c → Relinked a c
relinked_trans a b c R S = record { long = S.long ∙ R.long; kept = λ k h. S.kept k (λ l. h (link_back a b R k l)) ∙ R.kept k h }

pub relinked_link : (before after : List ℕ) (f i : ℕ) → links_end ≤ heads_at before → i < 1024 → Relinked before after → Relinked before (linked f i after)
unfolding linked
relinked_link before after f i b c R =
    let e = relinked_heads before after R in
    relinked_set before (set after (nexts_from + i) (head_at after f)) (heads_at after + f) i (inr (omega arith, inr (omega arith)))
    (relinked_set before after (nexts_from + i) (head_at after f) (inr (omega arith, inl (omega arith))) R)

-- what is linked behind a new head
module _ (task : List ℕ) (f i : ℕ) (c : i < 1024) (H : Heads (f + 1) task) where
  heads_same : heads_at (linked f i task) ≡ heads_at task
  heads_same = relinked_heads task (linked f i task) (relinked_link task task f i H.behind c (relinked_none task))

  pub head_new : head_at (linked f i task) f ≡ i
  unfolding linked
  head_new =
      rw heads_same
      (get_or-set_same (set task (nexts_from + i) (head_at task f)) (heads_at task + f) i 0 (rw (length-set task (nexts_from + i) (head_at task f)) (omega (arith, H.room))))

  pub head_old : (g : ℕ) → (g ≡ f → ⊥) → head_at (linked f i task) g ≡ head_at task g
  unfolding linked
  head_old g d =
      rw heads_same
      (get_or-set_other (set task (nexts_from + i) (head_at task f)) (heads_at task + f) (heads_at task + g) i 0 (λ q. d (omega arith))
      ∙ get_or-set_other task (nexts_from + i) (heads_at task + g) (head_at task f) 0 (λ q. omega (arith, H.behind)))

  next_kept : (j : ℕ) → j < 1024 → next_at (linked f i task) j ≡ next_at (set task (nexts_from + i) (head_at task f)) j
  unfolding linked
  next_kept j l = get_or-set_other (set task (nexts_from + i) (head_at task f)) (heads_at task + f) (nexts_from + j) i 0 (λ q. omega (arith, H.behind))

  pub next_new : next_at (linked f i task) i ≡ head_at task f
  next_new = next_kept i c ∙ get_or-set_same task (nexts_from + i) (head_at task f) 0 (omega (arith, H.behind, H.room))

  pub next_old : (j : ℕ) → j < 1024 → (j ≡ i → ⊥) → next_at (linked f i task) j ≡ next_at task j
  next_old j l d = next_kept j l ∙ get_or-set_other task (nexts_from + i) (nexts_from + j) (head_at task f) 0 (λ q. d (omega arith))

-- equal numbers from f up to t make equal parts
pub slice_same : (n f t : ℕ) (a b : List ℕ) → t ≡ f + n → t ≤ length a → t ≤ length b → ((k : ℕ) → f ≤ k → k < t → get_or a k 0 ≡ get_or b k 0) → slice f t a ≡ slice f t b
slice_same zero f t a b e la lb h = let q : t ≡ f = omega arith in rw q (slice_empty f a ∙ sym (slice_empty f b))
slice_same (suc n) f t a b e la lb h =
    slice-cons f t a 0 (omega arith) la
    ∙ rw (h f (omega arith) (omega arith), slice_same n (suc f) t a b (omega arith) la lb (λ k x y. h k (omega arith) y)) refl
    ∙ sym (slice-cons f t b 0 (omega arith) lb)

each_same : {A : Type 0} (f g : ℕ → A) (a n : ℕ) → ((k : ℕ) → a ≤ k → k < a + n → f k ≡ g k) → each f a n ≡ each g a n
unfolding each
each_same f g a zero h = refl
each_same f g a (suc n) h = rw (h a (omega arith) (omega arith), each_same f g (suc a) n (λ k x y. h k (omega arith) (omega arith))) refl

outside_head : (task : List ℕ) (k : ℕ) → k < order_from → (k ≡ 2 → ⊥) → Link task k → ⊥
outside_head task k h n (inl e) = n e
outside_head task k h n (inr e) = omega (arith, e.0)

outside_rows : (task : List ℕ) (k : ℕ) → links_end ≤ k → k < heads_at task → Link task k → ⊥
outside_rows task k h l (inl e) = omega arith
outside_rows task k h l (inr (o, inl e)) = omega arith
outside_rows task k h l (inr (o, inr e)) = omega arith

module _ (before after : List ℕ) (L : Loaded before) (R : Relinked before after) where
  head_kept : (k : ℕ) → k < order_from → (k ≡ 2 → ⊥) → get_or after k 0 ≡ get_or before k 0
  head_kept k h n = R.kept k (outside_head before k h n)

  rows_kept : (k : ℕ) → links_end ≤ k → k < heads_at before → get_or after k 0 ≡ get_or before k 0
  rows_kept k h l = R.kept k (outside_rows before k h l)

  cell_kept : (i d : ℕ) → i < actions (task_in before) → d < 4 → cell after (action_rows + i) d ≡ cell before (action_rows + i) d
  cell_kept i d h l = rows_kept (4 * (action_rows + i) + d) (omega arith) (omega (arith, (L.rows i h).apart.0))

  variable_kept : (v : ℕ) → v < 64 → variable_in after v ≡ variable_in before v
  unfolding variable_in
  variable_kept v h =
      let k : (d : ℕ) → d < 4 → cell after (1 + v) d ≡ cell before (1 + v) d = λ d l. head_kept (4 * (1 + v) + d) (omega arith) (λ q. omega arith) in
      rw (k 0 (omega arith), k 1 (omega arith), k 2 (omega arith), k 3 (omega arith)) refl

  facts_kept : (a b : ℕ) → links_end ≤ a → a ≤ b → b ≤ heads_at before → facts_in after a b ≡ facts_in before a b
  unfolding facts_in
  facts_kept a b h l m =
      let r = L.heads.room in
      rw (slice_same (b - a) a b after before (omega arith) (omega (arith, R.long)) (omega arith) (λ k x y. rows_kept k (omega arith) (omega arith))) refl

  action_kept : (i : ℕ) → i < actions (task_in before) → action_in after i ≡ action_in before i
  unfolding action_in
  action_kept i h =
      let r = L.rows i h in
      rw (
        cell_kept i 0 h (omega arith),
        cell_kept i 1 h (omega arith),
        cell_kept i 2 h (omega arith),
        cell_kept i 3 h (omega arith),
        facts_kept (pre_at before i) (eff_at before i) r.behind r.pre_below
            (omega (arith, r.eff_below, r.apart.1)),
        facts_kept (eff_at before i) (end_at before i) (omega (arith, r.behind, r.pre_below)) r.eff_below r.apart.1,
      ) refl

  pub relinked_task : task_in after ≡ task_in before
  unfolding task_in
  relinked_task =
      let e₀ = head_kept 0 (omega arith) (λ q. omega arith) in
      let e₁ = head_kept 1 (omega arith) (λ q. omega arith) in
      rw (
        e₀,
        e₁,
        each_same (variable_in after) (variable_in before) 0 (cell before 0 0)
            (λ v x y. variable_kept v (omega (arith, L.formed.variables_max, task_in_variables before))),
        each_same (action_in after) (action_in before) 0
            (cell before 0 1) (λ i x y. action_kept i (omega (arith, task_in_actions before))),
      ) refl

  pub relinked_loaded : Loaded after
  relinked_loaded = record {
    formed = rw relinked_task L.formed;
    head = omega (arith, L.head, R.long);
    rows = λ i h. row i (omega (arith, ap actions relinked_task));
    heads = rw relinked_task (heads_kept (64 * variables (task_in before)) before after R L.heads);
  }
    where
      row : (i : ℕ) → i < actions (task_in before) → Row after (action_rows + i)
      row i h =
          let r = L.rows i h in
          let e = relinked_heads before after R in
          let c₁ = cell_kept i 1 h (omega arith) in
          let c₂ = cell_kept i 2 h (omega arith) in
          let c₃ = cell_kept i 3 h (omega arith) in
          record {
            room = omega (arith, r.room, R.long);
            behind = omega (arith, r.behind);
            pre_below = omega (arith, r.pre_below);
            eff_below = omega (arith, r.eff_below);
            end_below = omega (arith, r.end_below, R.long);
            apart = (omega (arith, r.apart.0), omega (arith, r.apart.1));
          }
