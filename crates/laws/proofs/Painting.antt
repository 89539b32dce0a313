-- A painting that passes 7 and 8 gives the repair what it needs (`Accepted`). No black variable on a cycle: no action changes two
-- black variables, and the clients-first order takes each black variable when no untaken one is its client. No arc without its
-- return: what has been walked can be walked back.
use Prim.Native.Nat.{ℕ, ◌*◌, ◌≤◌, ◌<◌}
use mathlib.Core.Path.{◌≡◌, refl, sym, ◌∙◌, subst}
use mathlib.Core.Logic.{◌⊎◌, inl, inr, ◌≢◌}
use mathlib.Core.Bool.{Bool, true, false, not, ◌&&◌, ◌||◌, and-true}
use mathlib.Core.List.{List, [], ◌∷◌, ◌++◌}
use mathlib.Core.Option.{none}
use lib.Dec.{T, not_T, eqb, eqb→eq}
use lib.ListN.{length}
use native.Mathlib.Omega.{arith}
use native.Mathlib.Nat.{mul-le-mul_left, mul-le-mul_right}
use native.Mathlib.Decide.{ℕ_discrete, dec_lt}
use Rattle.planning.specs.Basics.{some_below}
use Rattle.planning.specs.Record.{Fact, Variable, Task}
use Rattle.planning.specs.Runs.{has, touches, holds, variables, actions, variable, act, count, relaxed, black, initial, goals, is_plan}
use Rattle.planning.specs.Painting.{reduced_effects, causal_arc, black_arc, on_cycle, cyclic, target, arc_from, outside, return_by, lacks_return, unreturned}
use Rattle.planning.specs.Repair.{known, order, stages, repaired, searches}
use Rattle.planning.specs.Existence.{share, black_product, black_count, search_bound}
use Rattle.laws.proofs.Tests.{or_l, or_r, and_l, and_r, and_i, T_cases}
use Rattle.laws.proofs.Below.{some_intro, some_elim, first_none, tally_le, tally_sub, times_same}
use Rattle.laws.proofs.Graph.{reach_here, reach_move, on_cycle_of}
use Rattle.laws.proofs.Facts.{has_here, has_there, has_cases, has-++, holds→sub, has→touches}
use Rattle.laws.proofs.Fields.{variable_past}
use Rattle.laws.proofs.Formed.{Formed, sorted_func, pre_func, eff_func, eff_below, goals_sorted, initial_holds, initial_elim}
use Rattle.laws.proofs.Plans.{is_plan_elim, is_plan_intro}
use Rattle.laws.proofs.Arcs.{arc_from_elim, arc_from_intro}
use Rattle.laws.proofs.Walks.{Walk, Usable, stop}
use Rattle.laws.proofs.Fill.{product}
use Rattle.laws.proofs.Known.{known_start}
use Rattle.laws.proofs.Conn.{Returns, Invertible, Inv, Conn, inv_same, conn_same}
use Rattle.laws.proofs.Order.{untaken, clients_first_ordered, clients_first_product, clients_first_length}
use Rattle.laws.proofs.Repair.{Red, Accepted, repair_from, repair_from_leads, repair_from_short, searches_from_short}

pub black_inside : (t : Task) (v : ℕ) → T (black t v) → v < variables t
unfolding black
black_inside t v h = go (dec_lt v (variables t))
  where
    go : Dec (v < variables t) → v < variables t
    go (yes b) = b
    go (no n) = absurd (subst (λ (x : Variable). T x.black) (variable_past t v (omega arith)) h)

-- the black causal graph
black_arc_intro : (t : Task) (i u v : ℕ) → i < actions t → T (black t u) → T (black t v) → u ≢ v → let r : List Fact = reduced_effects (act t i) in
    T (touches r v) → T (touches (act t i).pre u || touches r u) → T (black_arc t u v)
unfolding black_arc causal_arc
black_arc_intro t i u v b bu bv ne tv tu =
    let n = not_T (eqb u v) (λ e. ne (eqb→eq u v e)) in
    let r : ℕ → List Fact = λ j. reduced_effects (act t j) in
    let s = some_intro (actions t) (λ j. touches (r j) v && (touches (act t j).pre u || touches (r j) u)) i b
    (and_i (touches (r i) v) (touches (act t i).pre u || touches (r i) u) tv tu) in
    search and_i

black_arc_ends : (t : Task) (u v : ℕ) → T (black_arc t u v) → T (black t u) × T (black t v)
unfolding black_arc
black_arc_ends t u v a = (search (and_l, and_r), search (and_l, and_r))

-- the outside condition: the facts of a list on other variables
pub has_outside : (v : ℕ) (fs : List Fact) (u x : ℕ) → u ≢ v → T (has fs u x) → T (has (outside v fs) u x)
unfolding outside
has_outside v [] u x n h = h
has_outside v (f ∷ fs) u x n h = go (eqb f.var v) refl (has_cases f fs u x h) (has_outside v fs u x n)
  where
    go : (b : Bool) → eqb f.var v ≡ b → ((u ≡ f.var) × (x ≡ f.val)) ⊎ T (has fs u x) → (T (has fs u x) → T (has (outside v fs) u x))
        → T (has (elim b [ true ↦ outside v fs | false ↦ f ∷ outside v fs ]) u x)
    go true e (inl z) k = absurd (n (z.0 ∙ eqb→eq f.var v (rw e tt)))
    go true e (inr z) k = k z
    go false e (inl z) k = rw (z.0, z.1) (has_here f (outside v fs))
    go false e (inr z) k = has_there f (outside v fs) u x (k z)

pub outside_has : (v : ℕ) (fs : List Fact) (u x : ℕ) → T (has (outside v fs) u x) → T (has fs u x)
unfolding outside
outside_has v [] u x h = h
outside_has v (f ∷ fs) u x h = go (eqb f.var v) h (outside_has v fs u x)
  where
    go : (b : Bool) → T (has (elim b [ true ↦ outside v fs | false ↦ f ∷ outside v fs ]) u x) → (T (has (outside v fs) u x) → T (has fs u x)) → T (has (f ∷ fs) u x)
    go true h k = has_there f fs u x (k h)
    go false h k = elim (has_cases f (outside v fs) u x h) [ inl z ↦ rw (z.0, z.1) (has_here f fs) | inr z ↦ has_there f fs u x (k z) ]

module _ (t : Task) (F : Formed t) where
  initial_one : (v c d : ℕ) → T (initial t v c) → T (initial t v d) → c ≡ d
  initial_one v c d h g = (initial_elim t v c h).1 ∙ sym (initial_elim t v d g).1

  pub initial_inv : Inv (act t) (actions t) (black t) (count t) (initial t) (initial t)
  initial_inv = record {
    ins = λ v d h. h;
    reds = λ u x r h. h;
    single = λ v c d mv h g. initial_one v c d h g;
    ranged = λ v c h. rw (initial_elim t v c h).1 (F.init_below v);
    val = λ v mv. ((variable t v).init, initial_holds t v (black_inside t v mv));
  }

  pub initial_conn : Conn (act t) (actions t) (black t) (count t) (initial t)
  initial_conn v c d mv h g = ([], subst (λ z. Walk (act t) (Usable (act t) (actions t) (initial t) v) v c [] z) (initial_one v c d h g) stop)

  module _ (Y : cyclic t ≡ none) where
    no_cycle : (v : ℕ) → v < variables t → T (on_cycle (variables t) (black_arc t) v) → ⊥
    unfolding cyclic
    no_cycle v b c = first_none (variables t) (on_cycle (variables t) (black_arc t)) Y v b c

    no_pair : (u v : ℕ) → T (black_arc t u v) → T (black_arc t v u) → ⊥
    no_pair u v a b =
        let ub = black_inside t u (black_arc_ends t u v a).0 in
        let vb = black_inside t v (black_arc_ends t u v a).1 in
        no_cycle u ub (on_cycle_of (variables t) (black_arc t) u v 1 ub vb a (reach_move (variables t) (black_arc t) 0 v u u ub b (reach_here (variables t) (black_arc t) 0 u)))

    -- 5.3: two black variables changed by one action would form a cycle
    pub one_black : (i u v : ℕ) → i < actions t → let r : List Fact = reduced_effects (act t i) in T (touches r u) → T (touches r v) → T (black t u) → T (black t v) → u ≡ v
    one_black i u v b tu tv bu bv = go (ℕ_discrete u v)
      where
        go : Dec (u ≡ v) → u ≡ v
        go (yes e) = e
        go (no n) = absurd (no_pair u v
            (black_arc_intro t i u v b bu bv n tv (or_r (touches (act t i).pre u) (touches (reduced_effects (act t i)) u) tu))
            (black_arc_intro t i v u b bv bu (λ e. n (sym e)) tu (or_r (touches (act t i).pre v) (touches (reduced_effects (act t i)) v) tv)))

  module _ (Y : cyclic t ≡ none) (R : unreturned t ≡ none) where
    returns_at : (i v d : ℕ) → i < actions t → v < variables t → d < count t v → T (lacks_return t i v d) → ⊥
    unfolding unreturned
    returns_at i v d b vb db l =
        first_none (actions t) (λ i. some_below (variables t) (λ v. some_below (count t v) (lacks_return t i v))) R i b
        (some_intro (variables t) (λ v. some_below (count t v) (lacks_return t i v)) v vb (some_intro (count t v) (lacks_return t i v) d db l))

    inverts : Invertible (act t) (actions t) (black t) (count t)
    unfolding lacks_return return_by
    inverts v i d e bv b db a = go (T_cases (some_below (actions t) (return_by t v d i)))
      where
        own : T (arc_from (act t) v d i) × (target (act t) v i ≡ e)
        own = arc_from_intro (act t) v d e i (eff_func t F i) a

        go : T (some_below (actions t) (return_by t v d i)) ⊎ T (not (some_below (actions t) (return_by t v d i))) → Returns (act t) (actions t) (black t) (count t) v i d e
        go (inr n) =
            absurd (returns_at i v d b (black_inside t v bv) db
            (and_i (black t v && arc_from (act t) v d i) (not (some_below (actions t) (return_by t v d i))) (and_i (black t v) (arc_from (act t) v d i) bv own.0) n))
        go (inl s) =
            let r = some_elim (actions t) (return_by t v d i) s in
            let j : ℕ = r.0 in
            let o : List Fact = outside v (act t i).pre ++ outside v (act t i).eff in
            let h : T ((arc_from (act t) v (target (act t) v i) j && eqb (target (act t) v j) d) && holds (has o) (outside v (act t j).pre)) = r.2 in
            let x = arc_from_elim (act t) v (target (act t) v i) j (pre_func t F j) (search and_l) in
            let q : target (act t) v j ≡ d = eqb→eq (target (act t) v j) d (search (and_l, and_r)) in
            record {
              by = j;
              below = r.1;
              arc = rw (own.1, q) at x;
              cond = λ u y n g. elim (has-++ (outside v (act t i).pre) (outside v (act t i).eff) u y
                  (holds→sub (has o) (outside v (act t j).pre) (search and_r) u y (has_outside v (act t j).pre u y n g))) [
                    | inl z ↦ inl (outside_has v (act t i).pre u y z)
                    | inr z ↦ inr (outside_has v (act t i).eff u y z)
                  ];
            }

    arcs : (i u v x : ℕ) → i < actions t → T (touches (reduced_effects (act t i)) v) → T (has (act t i).pre u x) → T (black t u) → T (black t v) → u ≢ v → T (black_arc t u v)
    arcs i u v x b tv h bu bv ne = black_arc_intro t i u v b bu bv ne tv (or_l (touches (act t i).pre u) (touches (reduced_effects (act t i)) u) (has→touches (act t i).pre u x h))

    pub accepted : Accepted (act t) (actions t) (black t) (count t) (order t)
    unfolding order
    accepted =
        let o = clients_first_ordered (variables t) (black_arc t) (black t) (black_inside t) (black_arc_ends t) (no_cycle Y) (act t) (actions t) arcs
        (variables t) (λ _. false) (Red (black t))
        (record { shut = λ u w z _ _. z; out = λ u q. inl q; in' = λ u. elim [ inl q ↦ q | inr z ↦ absurd z ] })
        (tally_le (variables t) (untaken (black t) (λ _. false))) in
        record {
          sound = record { pres = λ i _. pre_func t F i; effs = λ i _. eff_func t F i; one = one_black Y };
          range = λ i v e _ h. eff_below t F i v e h;
          pos = F.count_min;
          invertible = inverts;
          ordered = o.0;
          covers = o.1;
        }

    -- P: the order takes each black variable once
    pub product_order : product (count t) (order t) ≡ black_product t
    unfolding order black_product
    product_order =
        clients_first_product (variables t) (black_arc t) (black t) (black_inside t) (black_arc_ends t) (no_cycle Y) (count t) (variables t) (λ _. false)
        (tally_le (variables t) (untaken (black t) (λ _. false)))
        ∙ times_same (variables t) (λ v. share (untaken (black t) (λ _. false) v) (count t v)) (λ v. share (black t v) (count t v)) (λ v _. rw (and-true (black t v)) refl)

    -- the repair of a relaxed plan: a red-black plan of at most n × P steps
    pub repaired_is_plan : (l : List ℕ) → is_plan t relaxed l ≡ true → is_plan t (black t) (repaired t l) ≡ true
    unfolding stages repaired
    repaired_is_plan l p =
        let P = is_plan_elim t relaxed l p in
        let k = known_start (black t) (initial t) in
        let M = repair_from_leads (act t) (actions t) (black t) (count t) (order t) accepted (goals t) (sorted_func (variables t) (count t) 0 (goals t) (goals_sorted t F))
        l (initial t) (initial t) (initial t) (λ v d h. h) P.below k.0 P.runs' P.meets
        (inv_same (act t) (actions t) (black t) (count t) (initial t) (initial t) (known (black t) (initial t) (initial t)) k initial_inv)
        (conn_same (act t) (actions t) (black t) (count t) (initial t) (known (black t) (initial t) (initial t)) k initial_conn) in
        is_plan_intro t (black t) (repair_from (act t) (actions t) (black t) (count t) (order t) (goals t) l (initial t) (initial t))
        (record { below = M.below; runs' = M.runs'; meets = M.meets })

    pub repaired_length : (l : List ℕ) → is_plan t relaxed l ≡ true → length (repaired t l) ≤ length l * black_product t
    unfolding stages repaired
    repaired_length l p =
        let P = is_plan_elim t relaxed l p in
        rw product_order at (repair_from_short (act t) (actions t) (black t) (count t) (order t) accepted (goals t) l (initial t) (initial t) P.runs' P.meets)

    -- and it takes at most n × P × m path searches
    order_few : length (order t) ≤ black_count t
    unfolding order black_count
    order_few =
        let few = clients_first_length (variables t) (black_arc t) (black t) (black_inside t) (black_arc_ends t) (no_cycle Y) (variables t) (λ _. false) in
        omega (arith, few, tally_sub (variables t) (untaken (black t) (λ _. false)) (black t) (λ v _ h. and_l (black t v) true h))

    pub searches_few : (l : List ℕ) → is_plan t relaxed l ≡ true → searches t l ≤ search_bound t l
    unfolding stages searches search_bound
    searches_few l p =
        let P = is_plan_elim t relaxed l p in
        let few = rw product_order at (searches_from_short (act t) (actions t) (black t) (count t) (order t) accepted (goals t) l (initial t) (initial t) P.runs' P.meets) in
        let less = mul-le-mul_left (length l) (mul-le-mul_right (black_product t) order_few) in
        omega (arith, few, less)
