-- The chains, built from the last action to the first: at action i the heads have the first action from i on with the move to each black
-- fact. An action has one move at most, since 7 passes, so that it stands in one chain.
use mathlib.Core.Path.{◌≡◌, refl, sym, ap, ◌∙◌, subst}
use mathlib.Core.Logic.{◌⊎◌, inl, inr}
use mathlib.Core.Bool.{Bool, true, false}
use mathlib.Core.List.{List, [], ◌∷◌}
use Prim.Native.Nat.{ℕ, ◌+◌, ◌-◌, ◌*◌, ◌/◌, ◌%◌, ◌<◌, ◌≤◌}
use native.Mathlib.Omega.{arith}
use native.Mathlib.Decide.{ℕ_discrete, dec_lt}
use lib.Dec.{T}
use Rattle.std.specs.Prelude.{Option, None, Some, MatchOption}
use Rattle.planning.specs.Record.{Fact, Task}
use Rattle.planning.specs.Runs.{Mode, has, variables, actions, act, black, count}
use Rattle.planning.specs.Painting.{reduced_effects}
use Rattle.laws.proofs.Tests.{false→F}
use Rattle.laws.proofs.Facts.{has_here, has_there, has_cases, has→touches}
use Rattle.laws.proofs.Arcs.{reduced_elim, reduced_func}
use Rattle.laws.proofs.Formed.{Formed, sorted_has, eff_func}
use Rattle.laws.proofs.Painting.{black_inside, one_black}
use Rattle.task.specs.Task.{links_end, heads_at, task_in, Heads, Loaded, order_from, nexts_from}
use Rattle.task.specs.Links.{head_at, next_at, linked, Next, Changes, Chained, Link, Relinked, Unlinked}
use Rattle.task.proofs.Relinking.{heads_fewer, heads_kept, relinked_task, relinked_loaded, relinked_none, relinked_link, relinked_trans, head_new, head_old, next_new, next_old}
use Rattle.sets.specs.Sets.{mode_of}
use Rattle.clients_first.specs.Order.{Ordered}
use Rattle.painting.specs.Chains.{move_of, linked_move, Acyclic, Linked}

-- f is a fact of the list on a variable of m
pub record Move (m : Mode) (fs : List Fact) (f : ℕ) : Type 0 where
  pub small : f < 4096
  pub on : T (m (f / 64))
  pub states : T (has fs (f / 64) (f % 64))

abbrev pub NoMove : Mode → List Fact → Type 0
NoMove m fs = (v e : ℕ) → T (m v) → T (has fs v e) → ⊥

-- the facts of a list are of 64 variables with 64 values
abbrev pub InRange : List Fact → Type 0
InRange fs = (v e : ℕ) → T (has fs v e) → (v < 64) × (e < 64)

pub move_is : (m : Mode) (fs : List Fact) → InRange fs → MatchOption (move_of m fs) (NoMove m fs) (Move m fs)
unfolding move_of has
move_is m [] R = λ v e o h. h
move_is m (f ∷ fs) R = go (m f.var) refl (move_is m fs (λ v e h. R v e (has_there f fs v e h)))
  where
    pick : Bool → Option ℕ
    pick x = elim x [ true ↦ Some (64 * f.var + f.val) | false ↦ move_of m fs ]

    go : (x : Bool) → m f.var ≡ x → MatchOption (move_of m fs) (NoMove m fs) (Move m fs) → MatchOption (pick x) (NoMove m (f ∷ fs)) (Move m (f ∷ fs))
    go true e r =
        let l = R f.var f.val (has_here f fs) in
        let q : (64 * f.var + f.val) / 64 ≡ f.var = omega (arith, l.1) in
        let z : (64 * f.var + f.val) % 64 ≡ f.val = omega (arith, l.1) in
        record { small = omega (arith, l.0, l.1); on = rw (q, e) tt; states = rw (q, z) (has_here f fs) }
    go false e r = behind (move_of m fs) r
      where
        behind : (o : Option ℕ) → MatchOption o (NoMove m fs) (Move m fs) → MatchOption o (NoMove m (f ∷ fs)) (Move m (f ∷ fs))
        behind None r = λ v x o h. elim (has_cases f fs v x h) [
          | inl k ↦ false→F (m f.var) e (subst (λ (y : ℕ). T (m y)) k.0 o)
          | inr k ↦ r v x o k
        ]
        behind (Some g) r = record { small = r.small; on = r.on; states = has_there f fs (g / 64) (g % 64) r.states }

-- the least number from a place on
module _ (n : ℕ) (P : ℕ → Type 0) where
  pub next_none : (a : ℕ) → n ≤ a → Next n P a 65535
  next_none a h = record { least = λ j l k _ _. omega arith; found = inl refl }

  pub next_here : (i : ℕ) → i < n → P i → Next n P i i
  next_here i h p = record { least = λ j l _ k _. omega arith; found = inr (omega arith, h, p) }

  pub next_skip : (i x : ℕ) → (P i → ⊥) → Next n P (i + 1) x → Next n P i x
  next_skip i x absent N = record {
    least = λ j l k m p. go j (ℕ_discrete j i) l k m p;
    found = elim N.found [ inl e ↦ inl e | inr f ↦ inr (omega (arith, f.0), f.1, f.2) ];
  }
    where
      go : (j : ℕ) → Dec (j ≡ i) → i ≤ j → j < n → j < x → P j → ⊥
      go j (yes e) l k m p = absent (subst P e p)
      go j (no e) l k m p = N.least j (omega arith) k m p

-- a task with other links is the same task
pub acyclic_relinked : (before after : List ℕ) (paint : ℕ) → Acyclic before paint → Relinked before after → Acyclic after paint
acyclic_relinked before after paint A R =
    let e = relinked_task before after A.loaded R in
    record { loaded = relinked_loaded before after A.loaded R; colours = rw e A.colours; acyclic = rw e A.acyclic }

-- the move of an action
module _ (m : Mode) (t : Task) (F : Formed t) (i : ℕ) where
  formed_move : MatchOption (move_of m (reduced_effects (act t i))) (NoMove m (reduced_effects (act t i))) (Move m (reduced_effects (act t i)))
  formed_move = move_is m (reduced_effects (act t i)) (λ v e h.
      let k = sorted_has (variables t) (count t) 0 (act t i).eff (F.eff_sorted i) v e (reduced_elim (act t i) v e h).0 in
      (omega (arith, k.var_below, F.variables_max), omega (arith, k.val_below, F.count_max v)))

  pub the_move : (f : ℕ) → Some f ≡ move_of m (reduced_effects (act t i)) → Move m (reduced_effects (act t i)) f
  the_move f e = rw (← e) at formed_move

  pub no_move : None ≡ move_of m (reduced_effects (act t i)) → NoMove m (reduced_effects (act t i))
  no_move e = rw (← e) at formed_move

  pub move_heads : (f : ℕ) → Move m (reduced_effects (act t i)) f → (task : List ℕ) → Heads (64 * variables t) task → Heads (f + 1) task
  move_heads f M task =
      let k = sorted_has (variables t) (count t) 0 (act t i).eff (F.eff_sorted i) (f / 64) (f % 64) (reduced_elim (act t i) (f / 64) (f % 64) M.states).0 in
      heads_fewer (f + 1) (64 * variables t) task (omega (arith, k.var_below))

pub colour_move : (task : List ℕ) (paint : ℕ) → Acyclic task paint → (o : Option ℕ) (fs : List Fact) → o ≡ move_of (mode_of paint) fs → o ≡ move_of (black (task_in task)) fs
colour_move task paint A o fs e = e ∙ ap (λ (m : Mode). move_of m fs) A.colours

-- the chains of the actions from i on
pub record Linking (task₀ task : List ℕ) (i : ℕ) : Type 0 where
  pub relinked : Relinked task₀ task
  pub within : i ≤ actions (task_in task₀)
  pub heads : (v e : ℕ) → v < 64 → e < 64 → T (black (task_in task₀) v) → Next (actions (task_in task₀)) (Changes (task_in task₀) v e) i (head_at task (64 * v + e))
  pub links : (v e j : ℕ) → T (black (task_in task₀) v) → i ≤ j → j < actions (task_in task₀) → Changes (task_in task₀) v e j
      → Next (actions (task_in task₀)) (Changes (task_in task₀) v e) (j + 1) (next_at task j)

module _ (task₀ : List ℕ) (paint : ℕ) (A : Acyclic task₀ paint) where
  F : Formed (task_in task₀)
  F = A.loaded.formed

  -- two black facts to which one action changes are the same
  one_move : (i v e w x : ℕ) → i < actions (task_in task₀) → T (black (task_in task₀) v) → T (black (task_in task₀) w) → Changes (task_in task₀) v e i → Changes (task_in task₀) w x i → (v ≡ w) × (e ≡ x)
  one_move i v e w x b ov ow h g =
      let q : v ≡ w = one_black (task_in task₀) F A.acyclic i v w b (has→touches (reduced_effects (act (task_in task₀) i)) v e h) (has→touches (reduced_effects (act (task_in task₀) i)) w x g) ov ow in
      let k : T (has (reduced_effects (act (task_in task₀) i)) w e) = subst (λ (y : ℕ). T (has (reduced_effects (act (task_in task₀) i)) y e)) q h in
      (q, reduced_func (act (task_in task₀) i) (eff_func (task_in task₀) F i) w e x k g)

  module _ (task : List ℕ) (i : ℕ) (L : Linking task₀ task (i + 1)) where
    below : i < actions (task_in task₀)
    below = omega (arith, L.within)

    near : i < 1024
    near = omega (arith, below, F.actions_max)

    -- an action's move is of a variable of the task
    room : (f : ℕ) → Move (black (task_in task₀)) (reduced_effects (act (task_in task₀) i)) f → Heads (f + 1) task
    room f M = move_heads (black (task_in task₀)) (task_in task₀) F i f M task (heads_kept (64 * variables (task_in task₀)) task₀ task L.relinked A.loaded.heads)

    linked_none : NoMove (black (task_in task₀)) (reduced_effects (act (task_in task₀) i)) → Linking task₀ task i
    linked_none absent = record {
      relinked = L.relinked;
      within = omega (arith, L.within);
      heads = λ v e vb eb o. next_skip (actions (task_in task₀)) (Changes (task_in task₀) v e) i (head_at task (64 * v + e)) (absent v e o) (L.heads v e vb eb o);
      links = λ v e j o l k h. go v e j (ℕ_discrete j i) o l k h;
    }
      where
        go : (v e j : ℕ) → Dec (j ≡ i) → T (black (task_in task₀) v) → i ≤ j → j < actions (task_in task₀) → Changes (task_in task₀) v e j
            → Next (actions (task_in task₀)) (Changes (task_in task₀) v e) (j + 1) (next_at task j)
        go v e j (yes q) o l k h = absurd (absent v e o (subst (λ (y : ℕ). T (has (reduced_effects (act (task_in task₀) y)) v e)) q h))
        go v e j (no q) o l k h = L.links v e j o (omega arith) k h

    linked_move_lem : (f : ℕ) → Move (black (task_in task₀)) (reduced_effects (act (task_in task₀) i)) f → Linking task₀ (linked f i task) i
    linked_move_lem f M = record {
      relinked = relinked_link task₀ task f i A.loaded.heads.behind near L.relinked;
      within = omega (arith, L.within);
      heads = λ v e vb eb o. front v e vb eb o (ℕ_discrete (64 * v + e) f);
      links = λ v e j o l k h. behind v e j (ℕ_discrete j i) o l k h;
    }
      where
        number : 64 * (f / 64) + f % 64 ≡ f
        number = omega arith

        front : (v e : ℕ) → v < 64 → e < 64 → T (black (task_in task₀) v) → Dec (64 * v + e ≡ f) → Next (actions (task_in task₀)) (Changes (task_in task₀) v e) i (head_at (linked f i task) (64 * v + e))
        front v e vb eb o (yes q) =
            let a : f / 64 ≡ v = omega arith in
            let c : f % 64 ≡ e = omega arith in
            let p : Changes (task_in task₀) v e i = rw (a, c) at M.states in
            rw (q, head_new task f i near (room f M)) (next_here (actions (task_in task₀)) (Changes (task_in task₀) v e) i below p)
        front v e vb eb o (no q) =
            rw (head_old task f i near (room f M) (64 * v + e) q)
            (next_skip (actions (task_in task₀)) (Changes (task_in task₀) v e) i (head_at task (64 * v + e))
            (λ h. let r = one_move i v e (f / 64) (f % 64) below o M.on h M.states in q (rw (r.0, r.1) number)) (L.heads v e vb eb o))

        behind : (v e j : ℕ) → Dec (j ≡ i) → T (black (task_in task₀) v) → i ≤ j → j < actions (task_in task₀) → Changes (task_in task₀) v e j
            → Next (actions (task_in task₀)) (Changes (task_in task₀) v e) (j + 1) (next_at (linked f i task) j)
        behind v e j (yes q) o l k h =
            let g : Changes (task_in task₀) v e i = subst (λ (y : ℕ). T (has (reduced_effects (act (task_in task₀) y)) v e)) q h in
            let r = one_move i v e (f / 64) (f % 64) below o M.on g M.states in
            let z : f ≡ 64 * v + e = rw (r.0, r.1) (sym number) in
            rw (q, next_new task f i near (room f M), z) (L.heads v e (omega (arith, r.0, M.small)) (omega (arith, r.1)) o)
        behind v e j (no q) o l k h = rw (next_old task f i near (room f M) j (omega (arith, F.actions_max)) q) (L.links v e j o (omega arith) k h)

    linking_turn : (task' : List ℕ) → task' ≡ linked_move (move_of (black (task_in task₀)) (reduced_effects (act (task_in task₀) i))) i task → Linking task₀ task' i
    unfolding linked_move
    linking_turn task' K = go (move_of (black (task_in task₀)) (reduced_effects (act (task_in task₀) i))) K (formed_move (black (task_in task₀)) (task_in task₀) F i)
      where
        go : (o : Option ℕ) → task' ≡ linked_move o i task
            → MatchOption o (NoMove (black (task_in task₀)) (reduced_effects (act (task_in task₀) i))) (Move (black (task_in task₀)) (reduced_effects (act (task_in task₀) i))) → Linking task₀ task' i
        go None K r = rw K (linked_none r)
        go (Some f) K M = rw K (linked_move_lem f M)

-- from the heads that are cleared to the chains
module _ (entry task₀ : List ℕ) (paint : ℕ) (A : Acyclic entry paint) (n : ℕ) (U : Unlinked (64 * n) entry task₀) where
  A₀ : Acyclic task₀ paint
  A₀ = acyclic_relinked entry task₀ paint A U.relinked

  same₀ : task_in task₀ ≡ task_in entry
  same₀ = relinked_task entry task₀ A.loaded U.relinked

  pub linking_start : (i : ℕ) → n ≡ variables (task_in entry) → i ≡ actions (task_in entry) → Linking task₀ task₀ i
  linking_start i en ei =
      let last : actions (task_in task₀) ≡ i = ap actions same₀ ∙ sym ei in
      record {
        relinked = relinked_none task₀;
        within = omega (arith, last);
        heads = λ v e vb eb o.
            let h = U.heads (64 * v + e) (omega (arith, en, ap variables same₀, black_inside (task_in task₀) v o)) in
            rw h (next_none (actions (task_in task₀)) (Changes (task_in task₀) v e) i (omega (arith, last)));
        links = λ v e j o l k h. absurd (omega (arith, last));
      }

  module _ (task : List ℕ) (i : ℕ) (L : Linking task₀ task i) where
    same : task_in task ≡ task_in task₀
    same = relinked_task task₀ task A₀.loaded L.relinked

    pub linking_loaded : Loaded task
    linking_loaded = relinked_loaded task₀ task A₀.loaded L.relinked

    pub linking_below : 0 < i → i - 1 < actions (task_in task)
    linking_below h = omega (arith, L.within, ap actions same)

    pub linking_back : 0 < i → (task' : List ℕ) → task' ≡ linked_move (move_of (mode_of paint) (reduced_effects (act (task_in task) (i - 1)))) (i - 1) task → Linking task₀ task' (i - 1)
    linking_back h task' K = linking_turn task₀ paint A₀ task (i - 1) (subst (Linking task₀ task) (omega arith) L) task' (rw (same, A₀.colours) at K)

    pub linking_end : i ≤ 0 → Linked entry task
    linking_end h =
        let z : i ≡ 0 = omega arith in
        record {
          relinked = relinked_trans entry task₀ task U.relinked L.relinked;
          chained = rw (← same₀) (record {
            heads = λ v e vb eb o. subst (λ (y : ℕ). Next (actions (task_in task₀)) (Changes (task_in task₀) v e) y (head_at task (64 * v + e))) z (L.heads v e vb eb o);
            links = λ v e j o k h. L.links v e j o (omega arith) k h;
          });
        }

-- the order stands outside of the chains, and both outside of the task
pub ordered_chained : (t : Task) (before after : List ℕ) → links_end ≤ heads_at before → Ordered before after → Chained t before → Chained t after
ordered_chained t before after l O C = record {
  heads = λ v e vb eb o. rw (same, O.kept (heads_at before + (64 * v + e)) (λ q. omega arith) (inr (omega arith))) (C.heads v e vb eb o);
  links = λ v e i o b h. rw (O.kept (nexts_from + i) (λ q. omega arith) (inr (omega arith))) (C.links v e i o b h);
}
  where
    same : heads_at after ≡ heads_at before
    same = O.kept 3 (λ q. omega arith) (inl (omega arith))

pub ordered_relinked : (before after : List ℕ) → Ordered before after → Relinked before after
ordered_relinked before after O = record { long = O.long; kept = λ k h. O.kept k (λ q. h (inl q)) (go k h (dec_lt k order_from)) }
  where
    go : (k : ℕ) → (Link before k → ⊥) → Dec (k < order_from) → (k < order_from) ⊎ (nexts_from ≤ k)
    go k h (yes l) = inl l
    go k h (no l) = inr (far (dec_lt k links_end))
      where
        far : Dec (k < links_end) → nexts_from ≤ k
        far (yes m) = absurd (h (inr (omega arith, inl m)))
        far (no m) = omega arith
