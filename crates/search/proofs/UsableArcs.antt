-- Usable arcs of a black variable, by what the code looks up: the value that an action needs and the one that it changes to.
use mathlib.Core.Path.{◌≡◌, refl}
use mathlib.Core.Bool.{◌&&◌}
use mathlib.Core.List.{List}
use Prim.Native.Nat.{ℕ, ◌<◌}
use lib.Dec.{T, not_T, eqb, eqb→eq}
use Rattle.planning.specs.Record.{Fact, Task}
use Rattle.planning.specs.Runs.{State, look, holds, actions, count, act}
use Rattle.planning.specs.Painting.{reduced_effects, target, fits, leaves, arc_from}
use Rattle.planning.specs.Repair.{usable_arc}
use Rattle.laws.proofs.Tests.{and_l, and_r, and_i}
use Rattle.laws.proofs.Facts.{look_is}
use Rattle.laws.proofs.Arcs.{Arc, reduced_func, arc_reduced}
use Rattle.laws.proofs.Formed.{Formed, pre_func, eff_func, eff_below}
use Rattle.laws.proofs.Best.{usable_arc_elim}
use Rattle.task.specs.Links.{Changes}

module _ (t : Task) (F : Formed t) (K : State) (v : ℕ) where
  arc_of : (c i : ℕ) → i < actions t → T (usable_arc (act t) K v c i) → Arc (act t) v i c (target (act t) v i)
  arc_of c i b h = (usable_arc_elim (act t) (actions t) K v (count t v) (λ i _. pre_func t F i) (λ i _. eff_func t F i) (λ i e _. eff_below t F i v e) c i b h).1

  pub arc_leaves : (c i : ℕ) → i < actions t → T (usable_arc (act t) K v c i) → c ≡ target (act t) v i → ⊥
  arc_leaves c i b h = (arc_of c i b h).leaves'

  pub arc_changes : (c i : ℕ) → i < actions t → T (usable_arc (act t) K v c i) → Changes t v (target (act t) v i) i
  arc_changes c i b h = arc_reduced (act t) v c (target (act t) v i) i (arc_of c i b h)

  pub arc_target : (c i e : ℕ) → i < actions t → T (usable_arc (act t) K v c i) → Changes t v e i → target (act t) v i ≡ e
  arc_target c i e b h s = reduced_func (act t i) (eff_func t F i) v (target (act t) v i) e (arc_changes c i b h) s

  -- an action that changes v to e, at a value other than e
  pub arc_is : (c e i : ℕ) → Changes t v e i → (c ≡ e → ⊥) → T (holds K (act t i).pre && fits (look (act t i).pre v) c) → T (usable_arc (act t) K v c i)
  unfolding usable_arc arc_from leaves
  arc_is c e i s ne h =
      let r : List Fact = reduced_effects (act t i) in
      let q = look_is r v e (reduced_func (act t i) (eff_func t F i)) s (look r v) refl in
      let l : T (leaves (look r v) c) = rw q (not_T (eqb c e) (λ x. ne (eqb→eq c e x))) in
      let f : T (fits (look (act t i).pre v) c) = search and_r in
      and_i (holds K (act t i).pre) (fits (look (act t i).pre v) c && leaves (look r v) c) (search and_l) (and_i (fits (look (act t i).pre v) c) (leaves (look r v) c) f l)

  pub arc_fits : (c i : ℕ) → T (usable_arc (act t) K v c i) → T (holds K (act t i).pre && fits (look (act t i).pre v) c)
  unfolding usable_arc arc_from
  arc_fits c i h =
      let a : T (fits (look (act t i).pre v) c && leaves (look (reduced_effects (act t i)) v) c) = search and_r in
      and_i (holds K (act t i).pre) (fits (look (act t i).pre v) c) (search and_l) (search and_l)
