-- Check 8 by marks. An action with the move v = e gives arcs of v alone, since 7 passes; its arc from d has its
-- return exactly if some action changes v to d and needs marked facts alone.
use mathlib.Core.Path.{◌≡◌, refl, sym, ◌∙◌, subst}
use mathlib.Core.Logic.{◌⊎◌, inl, inr, ◌≢◌}
use mathlib.Core.Bool.{Bool, true, false, not, ◌&&◌}
use mathlib.Core.List.{List, [], ◌∷◌, ◌++◌}
use mathlib.Core.Option.{Option, none, some}
use Prim.Native.Nat.{ℕ, ◌+◌, ◌<◌}
use native.Mathlib.Omega.{arith}
use native.Mathlib.Decide.{ℕ_discrete}
use lib.Dec.{T, eqb, eqb→eq, eqb_refl}
use Rattle.planning.specs.Basics.{some_below}
use Rattle.planning.specs.Record.{Fact, Task}
use Rattle.planning.specs.Runs.{State, has, look, holds, variables, actions, act, black, count}
use Rattle.planning.specs.Painting.{reduced_effects, arc_from, target, or_zero, outside, return_by, lacks_return, cyclic}
use Rattle.laws.proofs.Tests.{F→false, false→F, bool_same, and_l, and_r, and_i}
use Rattle.laws.proofs.Below.{some_intro, some_elim, some_same, some_false}
use Rattle.laws.proofs.Facts.{has_cases, has_here, has_there, has_nil, has-++, holds→sub, sub→holds, has→touches, look_some, look_none, look_is}
use Rattle.laws.proofs.Arcs.{Arc, reduced_elim, reduced_func, arc_reduced, arc_from_elim, arc_from_intro}
use Rattle.laws.proofs.Formed.{Formed, sorted_has, pre_func, eff_func}
use Rattle.laws.proofs.Painting.{black_inside, has_outside, outside_has, one_black}
use Rattle.returns.specs.Returns.{returns_by, returned}
use Rattle.lacking.specs.Lacking.{arcs_by, lacks_by}
use Rattle.painting.specs.Answers.{lacks}
use Rattle.lacking.proofs.Marked.{Small, sorted_small, needs_small, Allows}
use Rattle.lacking.proofs.Complete.{from_in, from_out, pre_small}
use Rattle.painting.proofs.Chains.{NoMove}

has_left : (fs gs : List Fact) (u x : ℕ) → T (has fs u x) → T (has (fs ++ gs) u x)
has_left [] gs u x h = absurd (has_nil u x h)
has_left (f ∷ fs) gs u x h = go (has_cases f fs u x h) (has_left fs gs u x)
  where
    go : ((u ≡ f.var) × (x ≡ f.val)) ⊎ T (has fs u x) → (T (has fs u x) → T (has (fs ++ gs) u x)) → T (has (f ∷ (fs ++ gs)) u x)
    go (inl e) k = rw (e.0, e.1) (has_here f (fs ++ gs))
    go (inr h) k = has_there f (fs ++ gs) u x (k h)

pub has_right : (fs gs : List Fact) (u x : ℕ) → T (has gs u x) → T (has (fs ++ gs) u x)
has_right [] gs u x h = h
has_right (f ∷ fs) gs u x h = has_there f (fs ++ gs) u x (has_right fs gs u x h)

outside_not : (v : ℕ) (fs : List Fact) (u x : ℕ) → T (has (outside v fs) u x) → u ≢ v
unfolding outside
outside_not v [] u x h = absurd (has_nil u x h)
outside_not v (f ∷ fs) u x h = go (eqb f.var v) refl h (outside_not v fs u x)
  where
    rest : Bool → List Fact
    rest b = elim b [ true ↦ outside v fs | false ↦ f ∷ outside v fs ]

    go : (b : Bool) → eqb f.var v ≡ b → T (has (rest b) u x) → (T (has (outside v fs) u x) → u ≢ v) → u ≢ v
    go true e h k = k h
    go false e h k = elim (has_cases f (outside v fs) u x h) [
      | inl q ↦ λ z. false→F (eqb f.var v) e (subst (λ (y : ℕ). T (eqb y v)) q.0 (subst (λ (y : ℕ). T (eqb u y)) z (eqb_refl u)))
      | inr q ↦ k q
    ]

pub small-++ : (n : ℕ) (fs gs : List Fact) → Small n fs → Small n gs → Small n (fs ++ gs)
small-++ n [] gs S R = R
small-++ n (f ∷ fs) gs S R = (S.0, S.1, small-++ n fs gs S.2 R)

module _ (t : Task) (F : Formed t) where
  pub facts_small : (i : ℕ) → Small (variables t) ((act t i).pre ++ (act t i).eff)
  facts_small i = small-++ (variables t) (act t i).pre (act t i).eff (needs_small t F i) (sorted_small (variables t) (count t) F.count_max 0 (act t i).eff (F.eff_sorted i))

  module _ (i v e : ℕ) (m : State) (moves : T (has (reduced_effects (act t i)) v e)) (A : Allows (variables t) v e ((act t i).pre ++ (act t i).eff) m) where
    aim : target (act t) v i ≡ e
    unfolding target or_zero
    aim = rw (look_is (reduced_effects (act t i)) v e (reduced_func (act t i) (eff_func t F i)) moves (look (reduced_effects (act t i)) v) refl) refl

    union : List Fact
    union = outside v (act t i).pre ++ outside v (act t i).eff

    in_union : (u x : ℕ) → u ≢ v → T (has ((act t i).pre ++ (act t i).eff) u x) → T (has union u x)
    unfolding union
    in_union u x n h = elim (has-++ (act t i).pre (act t i).eff u x h) [
      | inl k ↦ has_left (outside v (act t i).pre) (outside v (act t i).eff) u x (has_outside v (act t i).pre u x n k)
      | inr k ↦ has_right (outside v (act t i).pre) (outside v (act t i).eff) u x (has_outside v (act t i).eff u x n k)
    ]

    of_union : (u x : ℕ) → T (has union u x) → T (has ((act t i).pre ++ (act t i).eff) u x)
    unfolding union
    of_union u x h = elim (has-++ (outside v (act t i).pre) (outside v (act t i).eff) u x h) [
      | inl k ↦ has_left (act t i).pre (act t i).eff u x (outside_has v (act t i).pre u x k)
      | inr k ↦ has_right (act t i).pre (act t i).eff u x (outside_has v (act t i).eff u x k)
    ]

    -- what returns is what changes v to d and needs marked facts alone
    return_is : (d : ℕ) → d ≢ e → (j : ℕ) → return_by t v d i j ≡ (has (reduced_effects (act t j)) v d && holds m (act t j).pre)
    unfolding return_by union
    return_is d n j = bool_same (return_by t v d i j) (has (reduced_effects (act t j)) v d && holds m (act t j).pre) there back
      where
        there : T ((arc_from (act t) v (target (act t) v i) j && eqb (target (act t) v j) d) && holds (has (outside v (act t i).pre ++ outside v (act t i).eff)) (outside v (act t j).pre))
            → T (has (reduced_effects (act t j)) v d && holds m (act t j).pre)
        there h =
            let a : T (arc_from (act t) v (target (act t) v i) j) = search (and_l, and_r) in
            let q : target (act t) v j ≡ d = eqb→eq (target (act t) v j) d (search (and_l, and_r)) in
            let o : T (holds (has (outside v (act t i).pre ++ outside v (act t i).eff)) (outside v (act t j).pre)) = search (and_l, and_r) in
            let x = arc_from_elim (act t) v (target (act t) v i) j (pre_func t F j) a in
            let c = subst (λ (y : ℕ). T (has (reduced_effects (act t j)) v y)) q (arc_reduced (act t) v (target (act t) v i) (target (act t) v j) j x) in
            and_i (has (reduced_effects (act t j)) v d) (holds m (act t j).pre) c
            (sub→holds m (act t j).pre (λ u y g. need u y g (ℕ_discrete u v) x o))
          where
            need : (u y : ℕ) → T (has (act t j).pre u y) → Dec (u ≡ v) → Arc (act t) v j (target (act t) v i) (target (act t) v j)
                → T (holds (has (outside v (act t i).pre ++ outside v (act t i).eff)) (outside v (act t j).pre)) → T (m u y)
            need u y g (yes z) x o =
                let k : y ≡ e = x.from y (subst (λ (w : ℕ). T (has (act t j).pre w y)) z g) ∙ aim in
                rw (z, k) A.own
            need u y g (no z) x o =
                A.other u y z (of_union u y (holds→sub (has (outside v (act t i).pre ++ outside v (act t i).eff)) (outside v (act t j).pre) o u y (has_outside v (act t j).pre u y z g)))

        back : T (has (reduced_effects (act t j)) v d && holds m (act t j).pre)
            → T ((arc_from (act t) v (target (act t) v i) j && eqb (target (act t) v j) d) && holds (has (outside v (act t i).pre ++ outside v (act t i).eff)) (outside v (act t j).pre))
        back h =
            let s : T (has (reduced_effects (act t j)) v d) = search (and_l, and_r) in
            let p : T (holds m (act t j).pre) = search (and_l, and_r) in
            let r = arc_from_intro (act t) v (target (act t) v i) d j (eff_func t F j) (record {
              from = λ x g. A.only x (pre_small t F j v x g).1 (holds→sub m (act t j).pre p v x g) ∙ sym aim;
              into = (reduced_elim (act t j) v d s).0;
              leaves' = λ z. n (sym z ∙ aim);
            }) in
            let q : T (eqb (target (act t) v j) d) = rw r.1 (eqb_refl d) in
            let a : T (arc_from (act t) v (target (act t) v i) j) = r.0 in
            let o : T (holds (has (outside v (act t i).pre ++ outside v (act t i).eff)) (outside v (act t j).pre)) =
            sub→holds (has (outside v (act t i).pre ++ outside v (act t i).eff)) (outside v (act t j).pre) (λ u x g.
            let z = outside_not v (act t j).pre u x g in
            let k = outside_has v (act t j).pre u x g in
            in_union u x z (A.others u x (pre_small t F j u x k).0 (pre_small t F j u x k).1 z (holds→sub m (act t j).pre p u x k))) in
            and_i (arc_from (act t) v (target (act t) v i) j && eqb (target (act t) v j) d) (holds (has (outside v (act t i).pre ++ outside v (act t i).eff)) (outside v (act t j).pre))
            (and_i (arc_from (act t) v (target (act t) v i) j) (eqb (target (act t) v j) d) a q) o

    returned_is : (d : ℕ) → d ≢ e → some_below (actions t) (return_by t v d i) ≡ returned t m v d
    unfolding returned
    returned_is d n = some_same (actions t) (return_by t v d i) (returns_by t m v d) (λ j _. return_is d n j)

    module _ (ib : i < actions t) (Y : cyclic t ≡ none) (bv : T (black t v)) where
      vb : v < variables t
      vb = black_inside t v bv

      -- an arc of v from d by action i that lacks its return
      lack_of : (d : ℕ) → T (lacks_return t i v d) → (d ≢ e) × ((x : ℕ) → T (has (act t i).pre v x) → x ≡ d) × T (not (returned t m v d))
      unfolding lacks_return
      lack_of d h =
          let a : T (arc_from (act t) v d i) = search (and_l, and_r) in
          let x = arc_from_elim (act t) v d i (pre_func t F i) a in
          let n : d ≢ e = λ z. x.leaves' (z ∙ sym aim) in
          let r : T (not (some_below (actions t) (return_by t v d i))) = search (and_l, and_r) in
          (n, x.from, subst (λ (b : Bool). T (not b)) (returned_is d n) r)

      lack_intro : (d : ℕ) → d ≢ e → ((x : ℕ) → T (has (act t i).pre v x) → x ≡ d) → T (not (returned t m v d)) → T (lacks_return t i v d)
      unfolding lacks_return
      lack_intro d n f r =
          let a = arc_from_intro (act t) v d e i (eff_func t F i) (record { from = f; into = (reduced_elim (act t i) v e moves).0; leaves' = n }) in
          let b : T (arc_from (act t) v d i) = a.0 in
          let q : T (not (some_below (actions t) (return_by t v d i))) = subst (λ (b : Bool). T (not b)) (sym (returned_is d n)) r in
          and_i (black t v && arc_from (act t) v d i) (not (some_below (actions t) (return_by t v d i))) (and_i (black t v) (arc_from (act t) v d i) bv b) q

      -- arcs of another black variable it has none
      only_move : (w d : ℕ) → T (lacks_return t i w d) → w ≡ v
      unfolding lacks_return
      only_move w d h =
          let a : T (arc_from (act t) w d i) = search (and_l, and_r) in
          let o : T (black t w) = search (and_l, and_r) in
          let x = arc_from_elim (act t) w d i (pre_func t F i) a in
          let c = has→touches (reduced_effects (act t i)) w (target (act t) w i) (arc_reduced (act t) w d (target (act t) w i) i x) in
          one_black t F Y i w v ib c (has→touches (reduced_effects (act t i)) v e moves) o bv

      pub lacks_is : lacks_by t m i v e ≡ lacks t i
      unfolding lacks_by lacks
      lacks_is = bool_same (arcs_by (look (act t i).pre v) t m v e) (some_below (variables t) (λ v. some_below (count t v) (lacks_return t i v))) (there (look (act t i).pre v) refl) back
        where
          at_v : (d : ℕ) → d < count t v → T (lacks_return t i v d) → T (some_below (variables t) (λ v. some_below (count t v) (lacks_return t i v)))
          at_v d b h = some_intro (variables t) (λ v. some_below (count t v) (lacks_return t i v)) v vb (some_intro (count t v) (lacks_return t i v) d b h)

          there : (o : Option ℕ) → look (act t i).pre v ≡ o → T (arcs_by o t m v e) → T (some_below (variables t) (λ v. some_below (count t v) (lacks_return t i v)))
          there none q h =
              let r = from_out t m v e 0 (count t v) h in
              at_v (0 + r.0) (omega (arith, r.1)) (lack_intro (0 + r.0) r.2 (λ x g. absurd (look_none (act t i).pre v x q g)) r.3)
          there (some d) q h =
              let r = from_out t m v e d 1 h in
              let z : d + r.0 ≡ d = omega (arith, r.1) in
              let g : T (has (act t i).pre v d) = look_some (act t i).pre v d q in
              at_v d (sorted_has (variables t) (count t) 0 (act t i).pre (F.pre_sorted i) v d g).val_below
              (lack_intro d (λ y. r.2 (z ∙ y)) (λ x k. pre_func t F i v x d k g) (subst (λ (y : ℕ). T (not (returned t m v y))) z r.3))

          look_here : (o : Option ℕ) → look (act t i).pre v ≡ o → (d : ℕ) → d < count t v → T (lacks_return t i v d) → T (arcs_by o t m v e)
          look_here none q d b h =
              let r = lack_of d h in
              let z : 0 + d ≡ d = omega arith in
              from_in t m v e 0 (count t v) d b (λ y. r.0 (sym z ∙ y)) (subst (λ (y : ℕ). T (not (returned t m v y))) (sym z) r.2)
          look_here (some x) q d b h =
              let r = lack_of d h in
              let z : x + 0 ≡ d = (omega (arith, r.1 x (look_some (act t i).pre v x q))) in
              from_in t m v e x 1 0 (omega arith) (λ y. r.0 (sym z ∙ y)) (subst (λ (y : ℕ). T (not (returned t m v y))) (sym z) r.2)

          back : T (some_below (variables t) (λ v. some_below (count t v) (lacks_return t i v))) → T (arcs_by (look (act t i).pre v) t m v e)
          back h =
              let r = some_elim (variables t) (λ v. some_below (count t v) (lacks_return t i v)) h in
              let w : ℕ = r.0 in
              let y = some_elim (count t w) (lacks_return t i w) r.2 in
              let q = only_move w y.0 y.2 in
              look_here (look (act t i).pre v) refl y.0 (subst (λ (z : ℕ). y.0 < count t z) q y.1) (subst (λ (z : ℕ). T (lacks_return t i z y.0)) q y.2)

  -- an action with no move has no arc
  pub lacks_none : (i : ℕ) → NoMove (black t) (reduced_effects (act t i)) → lacks t i ≡ false
  unfolding lacks lacks_return
  lacks_none i absent = some_false (variables t) (λ v. some_below (count t v) (lacks_return t i v)) (λ v _. some_false (count t v) (lacks_return t i v) (λ d _. F→false (lacks_return t i v d) (λ h.
      let a : T (arc_from (act t) v d i) = search (and_l, and_r) in
      let o : T (black t v) = search (and_l, and_r) in
      absent v (target (act t) v i) o (arc_reduced (act t) v d (target (act t) v i) i (arc_from_elim (act t) v d i (pre_func t F i) a)))))
