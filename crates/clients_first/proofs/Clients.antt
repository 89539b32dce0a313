-- The clients-first order as the loop builds it: `left` is the set of untaken black variables, and what is written with what
-- the definition still takes is the order.
use mathlib.Core.Path.{◌≡◌, refl, sym, ap, ◌∙◌, subst}
use mathlib.Core.Logic.{◌⊎◌, inl, inr}
use mathlib.Core.Bool.{Bool, true, false, not, ◌&&◌, ◌||◌, and-true, and_comm}
use mathlib.Core.List.{List, [], ◌∷◌, ◌++◌, append_assoc, append-nil}
use mathlib.Core.Option.{Option, none, some}
use Prim.Native.Nat.{ℕ, zero, suc, ◌+◌, ◌-◌, ◌^◌, ◌<◌, ◌≤◌}
use native.Mathlib.Omega.{arith}
use native.Mathlib.Decide.{ℕ_discrete}
use borrow.Author.Tests.{eq-eqb, ne_eqb}
use lib.Bits.{bit_and, bit_xor, and_lt}
use lib.Dec.{T, eqb, eqb→eq}
use lib.ListN.{length, get_or, set, take, length-set}
use lib.Seq.{slice, slice_empty, length-take-le, take-suc-set, take-set-lt, drop-set-lt, drop-append-le, get_or-set_same, get_or-set_other}
use Rattle.planning.specs.Basics.{some_below, first}
use Rattle.planning.specs.Record.{Task}
use Rattle.planning.specs.Runs.{variables, black}
use Rattle.planning.specs.Painting.{black_arc}
use Rattle.planning.specs.Repair.{ready, clients_first, order}
use Rattle.laws.proofs.Tests.{T→true, true→T, F→false, false→F, bool_same, and_l, and_r, and_i}
use Rattle.laws.proofs.Below.{First?, first_is, some_intro, some_elim, first_same, some_false}
use Rattle.laws.proofs.Painting.{black_inside}
use Rattle.sets.specs.Sets.{in_set, sets_of, mode_of}
use Rattle.sets.proofs.Members.{in_set_empty, in_set_single, in_set_and, in_set_xor, xor}
use Rattle.task.specs.Task.{cell, task_in, order_from, nexts_from, links_end}
use Rattle.task.specs.Links.{order_in}
use Rattle.clients_first.specs.Order.{Filled, Ordered}
use Rattle.clients_first.proofs.Bits.{empty_is}

-- one variable's test
module _ (row left v : ℕ) (small : row < 2 ^ 64) (small' : left < 2 ^ 64) where
  meets : Bool
  meets = some_below 64 (λ u. in_set left u && in_set row u)

  meets_not : (b : Bool) → eqb (bit_and row left) 0 ≡ b → not meets ≡ b
  unfolding meets
  meets_not true e =
      let z : bit_and row left ≡ 0 = eqb→eq (bit_and row left) 0 (true→T (eqb (bit_and row left) 0) e) in
      ap not (some_false 64 (λ u. in_set left u && in_set row u) (λ u b. and_comm (in_set left u) (in_set row u) ∙ sym (in_set_and row left u) ∙ rw z (in_set_empty u)))
  meets_not false e = ap not (T→true meets (hit meets refl))
    where
      none_shared : meets ≡ false → (u : ℕ) → u < 64 → in_set (bit_and row left) u ≡ false
      none_shared f u b = in_set_and row left u ∙ F→false (in_set row u && in_set left u) (λ t. false→F meets f
          (some_intro 64 (λ u. in_set left u && in_set row u) u b (and_i (in_set left u) (in_set row u) (and_r (in_set row u) (in_set left u) t) (and_l (in_set row u) (in_set left u) t))))

      hit : (b : Bool) → meets ≡ b → T b
      hit true f = tt
      hit false f = false→F (eqb (bit_and row left) 0) e
          (true→T (eqb (bit_and row left) 0) (eq-eqb (bit_and row left) 0 (empty_is 64 (bit_and row left) (and_lt 64 row left small small') (none_shared f))))

  pub ready_of : in_set left v ≡ true → eqb (bit_and row left) 0 ≡ (in_set left v && not (some_below 64 (λ u. in_set left u && in_set row u)))
  unfolding meets
  ready_of e = rw e (sym (meets_not (eqb (bit_and row left) 0) refl))

end_black : (t : Task) (v u : ℕ) → T (black_arc t v u) → T (black t u)
unfolding black_arc
end_black t v u a = search (and_l, and_r)

-- one more place of the order is written
slice_more : (task : List ℕ) (k v : ℕ) → order_from + k < length task → slice order_from (order_from + (k + 1)) (set task (order_from + k) v) ≡ slice order_from (order_from + k) task ++ (v ∷ [])
slice_more task k v h =
    let e : order_from + (k + 1) ≡ suc (order_from + k) = omega arith in
    rw (e, take-suc-set task (order_from + k) v h) (drop-append-le order_from (take (order_from + k) task) (v ∷ []) (rw (length-take-le (order_from + k) task (omega arith)) (omega arith)))

-- the first k are taken, and `left` has the others; `task` is the list with their places written
pub record Taking (t : Task) (n : ℕ) (task₀ task : List ℕ) (left k : ℕ) : Type 0 where
  pub within : k ≤ n
  pub few : n ≤ 64
  pub room : links_end ≤ length task₀
  pub long : length task ≡ length task₀
  pub kept : (j : ℕ) → (j < order_from) ⊎ (nexts_from ≤ j) → get_or task j 0 ≡ get_or task₀ j 0
  pub taken : ℕ → Bool
  pub still : (u : ℕ) → in_set left u ≡ (black t u && not (taken u))
  pub so_far : slice order_from (order_from + k) task ++ clients_first n (black_arc t) (black t) (n - k) taken ≡ order t

module _ (t : Task) (rows : List ℕ) (n : ℕ) (arcs : sets_of rows ≡ black_arc t) (all : n ≡ variables t) where
  -- the test that the code makes of a variable of `left`
  ready_same : (left : ℕ) (taken : ℕ → Bool) → ((u : ℕ) → in_set left u ≡ (black t u && not (taken u))) → n ≤ 64 → (v : ℕ)
      → (in_set left v && not (some_below 64 (λ u. in_set left u && sets_of rows v u))) ≡ ready n (black_arc t) (black t) taken v
  unfolding ready
  ready_same left taken s b v = rw (arcs, s v) (ap (λ (x : Bool). (black t v && not (taken v)) && not x)
      (bool_same (some_below 64 (λ u. in_set left u && black_arc t v u)) (some_below n (λ u. not (taken u) && black_arc t v u)) there back))
    where
      there : T (some_below 64 (λ u. in_set left u && black_arc t v u)) → T (some_below n (λ u. not (taken u) && black_arc t v u))
      there h =
          let r = some_elim 64 (λ u. in_set left u && black_arc t v u) h in
          let u : ℕ = r.0 in
          let a = and_r (in_set left u) (black_arc t v u) r.2 in
          let l : T (black t u && not (taken u)) = subst T (s u) (and_l (in_set left u) (black_arc t v u) r.2) in
          some_intro n (λ u. not (taken u) && black_arc t v u) u (omega (arith, black_inside t u (end_black t v u a))) (and_i (not (taken u)) (black_arc t v u) (and_r (black t u) (not (taken u)) l) a)

      back : T (some_below n (λ u. not (taken u) && black_arc t v u)) → T (some_below 64 (λ u. in_set left u && black_arc t v u))
      back h =
          let r = some_elim n (λ u. not (taken u) && black_arc t v u) h in
          let u : ℕ = r.0 in
          let a = and_r (not (taken u)) (black_arc t v u) r.2 in
          let q = and_l (not (taken u)) (black_arc t v u) r.2 in
          some_intro 64 (λ u. in_set left u && black_arc t v u) u (omega (arith, r.1))
          (and_i (in_set left u) (black_arc t v u) (subst T (sym (s u)) (and_i (black t u) (not (taken u)) (end_black t v u a) q)) a)

  takes_none : (j : ℕ) (taken : ℕ → Bool) → first n (ready n (black_arc t) (black t) taken) ≡ none → clients_first n (black_arc t) (black t) j taken ≡ []
  unfolding clients_first
  takes_none zero taken e = refl
  takes_none (suc j) taken e = rw (clients_first, e) refl

  takes_one : (j : ℕ) (taken : ℕ → Bool) (v : ℕ) → first n (ready n (black_arc t) (black t) taken) ≡ some v
      → clients_first n (black_arc t) (black t) (suc j) taken ≡ v ∷ clients_first n (black_arc t) (black t) j (λ u. eqb u v || taken u)
  unfolding clients_first
  takes_one j taken v e = rw (clients_first, e) refl

  pub taking_start : (task : List ℕ) (paint : ℕ) → mode_of paint ≡ black t → n ≤ 64 → links_end ≤ length task → Taking t n task task paint 0
  unfolding mode_of order
  taking_start task paint e b room = record {
    within = omega arith;
    few = b;
    room = room;
    long = refl;
    kept = λ j h. refl;
    taken = λ _. false;
    still = λ u. ap (λ (g : ℕ → Bool). g u) e ∙ sym (and-true (black t u));
    so_far = let z : n - 0 ≡ n = omega arith in rw (z, slice_empty order_from task, all) refl;
  }

  module _ (task₀ task : List ℕ) (left k : ℕ) (P : Taking t n task₀ task left k) where
    same_first : (o : Option ℕ) → o ≡ first n (λ v. in_set left v && not (some_below 64 (λ u. in_set left u && sets_of rows v u))) → first n (ready n (black_arc t) (black t) P.taken) ≡ o
    same_first o e = sym (e ∙ first_same n (λ v. in_set left v && not (some_below 64 (λ u. in_set left u && sets_of rows v u)))
        (ready n (black_arc t) (black t) P.taken) (λ v _. ready_same left P.taken P.still P.few v))

    pub taking_found : (v : ℕ) → some v ≡ first n (λ v. in_set left v && not (some_below 64 (λ u. in_set left u && sets_of rows v u))) → (v < n) × T (in_set left v)
    unfolding ready
    taking_found v e = go (first n (ready n (black_arc t) (black t) P.taken)) (first_is n (ready n (black_arc t) (black t) P.taken)) (same_first (some v) e)
      where
        go : (o : Option ℕ) → First? n (ready n (black_arc t) (black t) P.taken) o → o ≡ some v → (v < n) × T (in_set left v)
        go none f q = let z : ◌≡◌ {A = ℕ} 0 1 = cc in absurd (omega arith)
        go (some w) f q =
            let i : w ≡ v = cc in
            let r : T ((black t w && not (P.taken w)) && not (some_below n (λ u. not (P.taken u) && black_arc t w u))) = f.passes in
            let l : T (black t w && not (P.taken w)) = and_l (black t w && not (P.taken w)) (not (some_below n (λ u. not (P.taken u) && black_arc t w u))) r in
            (omega (arith, f.below), subst (λ (x : ℕ). T (in_set left x)) i (subst T (sym (P.still w)) l))

    pub taking_turn : k < n → (v w : ℕ) (task' : List ℕ) → some v ≡ first n (λ v. in_set left v && not (some_below 64 (λ u. in_set left u && sets_of rows v u)))
        → w ≡ 2 ^ v → task' ≡ set task (order_from + k) v → Taking t n task₀ task' (bit_xor left w) (k + 1)
    taking_turn h v w task' e ew et = rw (ew, et) (record {
      within = omega arith;
      few = P.few;
      room = P.room;
      long = length-set task (order_from + k) v ∙ P.long;
      kept = λ j l. get_or-set_other task (order_from + k) j v 0 (λ q. outside j l q) ∙ P.kept j l;
      taken = λ u. eqb u v || P.taken u;
      still = λ u. rw (in_set_xor left (2 ^ v) u, in_set_single v u) (go u (ℕ_discrete u v));
      so_far =
          let j : n - k ≡ suc (n - (k + 1)) = omega arith in
          rw (slice_more task k v (omega (arith, P.long, P.room, P.few)), append_assoc)
          (sym (ap (λ (l : List ℕ). slice order_from (order_from + k) task ++ l) (takes_one (n - (k + 1)) P.taken v (same_first (some v) e)))
          ∙ (rw j at P.so_far));
    })
      where
        outside : (j : ℕ) → (j < order_from) ⊎ (nexts_from ≤ j) → j ≡ order_from + k → ⊥
        outside j (inl l) q = omega arith
        outside j (inr l) q = omega (arith, P.few)

        go : (u : ℕ) → Dec (u ≡ v) → xor (in_set left u) (eqb u v) ≡ (black t u && not (eqb u v || P.taken u))
        go u (yes q) = rw (q, eq-eqb v v refl, T→true (in_set left v) (taking_found v e).1) (sym (and_false' (black t v)))
          where
            and_false' : (b : Bool) → (b && false) ≡ false
            and_false' true = refl
            and_false' false = refl
        go u (no q) = rw (ne_eqb u v q, P.still u) (xor_false (black t u && not (P.taken u)))
          where
            xor_false : (b : Bool) → xor b false ≡ b
            xor_false true = refl
            xor_false false = refl

    filled : slice order_from (order_from + k) task ≡ order t → (e : t ≡ task_in task₀) → Filled k task₀ task
    filled o e = record { few = omega (arith, P.within, P.few); long = P.long; ordered = o ∙ ap order e; kept = P.kept }

    pub taking_stop : none ≡ first n (λ v. in_set left v && not (some_below 64 (λ u. in_set left u && sets_of rows v u))) → t ≡ task_in task₀ → Filled k task₀ task
    taking_stop e = filled
        (sym (append-nil (slice order_from (order_from + k) task))
        ∙ sym (ap (λ (l : List ℕ). slice order_from (order_from + k) task ++ l) (takes_none (n - k) P.taken (same_first none e))) ∙ P.so_far)

    pub taking_end : n ≤ k → t ≡ task_in task₀ → Filled n task₀ task
    unfolding clients_first
    taking_end h e =
        let z : n - k ≡ 0 = omega arith in
        let q : k ≡ n = omega (arith, P.within) in
        subst (λ (x : ℕ). Filled x task₀ task) q (filled (sym (append-nil (slice order_from (order_from + k) task)) ∙ (rw z at P.so_far)) e)

-- the count is written behind the places
pub ordered_end : (n : ℕ) (before filled after : List ℕ) → links_end ≤ length before → Filled n before filled → after ≡ set filled 2 n → Ordered before after
unfolding order_in
ordered_end n before filled after room F e = rw e (record {
  few = rw count F.few;
  long = length-set filled 2 n ∙ F.long;
  ordered = rw count (place ∙ F.ordered);
  kept = λ k h l. get_or-set_other filled 2 k n 0 h ∙ F.kept k l;
})
  where
    count : cell (set filled 2 n) 0 2 ≡ n
    count = get_or-set_same filled 2 n 0 (omega (arith, F.long))

    place : slice order_from (order_from + n) (set filled 2 n) ≡ slice order_from (order_from + n) filled
    place = rw (take-set-lt (order_from + n) filled 2 n (omega arith)) (drop-set-lt order_from (take (order_from + n) filled) 2 n (omega arith))
