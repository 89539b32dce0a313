-- The loops over facts. Effects are put into the sets one after the other, and the sets at the end are those of the relaxed step.
use mathlib.Core.Path.{◌≡◌, refl, sym, ap, ◌∙◌, fun_ext}
use mathlib.Core.Bool.{Bool, true, false, ◌&&◌, ◌||◌, and-true}
use mathlib.Core.List.{List, [], ◌∷◌}
use Prim.Native.Nat.{ℕ, ◌+◌, ◌^◌, ◌<◌, ◌≤◌}
use native.Mathlib.Numerals.{add-one}
use native.Mathlib.Omega.{arith}
use native.Mathlib.Decide.{ℕ_discrete}
use borrow.Author.Tests.{eq-eqb, ne_eqb}
use lib.Bits.{bit_or}
use lib.Dec.{eqb}
use lib.ListN.{length, get_or, set, length-set}
use lib.Seq.{slice-cons, slice_empty, get_or-set_same, get_or-set_other}
use Rattle.planning.specs.Record.{Fact, Action}
use Rattle.planning.specs.Runs.{has, step, relaxed}
use Rattle.task.specs.Task.{fact_of, facts_in}
use Rattle.sets.specs.Sets.{in_set, sets_of}
use Rattle.sets.proofs.Listed.{Rising}
use Rattle.sets.proofs.Members.{in_set_added}

-- the sets with one effect, and with each effect of a list in turn
unfoldable pub put : Fact → List ℕ → List ℕ
put f ms = set ms f.var (bit_or (get_or ms f.var 0) (2 ^ f.val))

unfoldable pub put_all : List Fact → List ℕ → List ℕ
put_all [] ms = ms
put_all (f ∷ fs) ms = put_all fs (put f ms)

turned : (e h s : Bool) → (h || (s || e)) ≡ ((e || h) || s)
turned true true s = refl
turned false true s = refl
turned true false true = refl
turned true false false = refl
turned false false true = refl
turned false false false = refl

put_all_at : (fs : List Fact) (ms : List ℕ) (low : ℕ) → Rising low fs → length ms ≡ 64 → (v d : ℕ) → sets_of (put_all fs ms) v d ≡ (has fs v d || sets_of ms v d)
unfolding put_all put has sets_of
put_all_at [] ms low r n v d = refl
put_all_at (f ∷ fs) ms low r n v d = put_all_at fs new (f.var + 1) r.2 (length-set ms f.var word ∙ n) v d ∙ go (ℕ_discrete v f.var)
  where
    word : ℕ
    word = bit_or (get_or ms f.var 0) (2 ^ f.val)

    new : List ℕ
    new = set ms f.var word

    go : Dec (v ≡ f.var) → (has fs v d || in_set (get_or new v 0) d) ≡ (((eqb v f.var && eqb d f.val) || has fs v d) || in_set (get_or ms v 0) d)
    go (yes e) =
        rw (e, eq-eqb f.var f.var refl, get_or-set_same ms f.var word 0 (omega (arith, r.1)), in_set_added (get_or ms f.var 0) f.val d)
        (turned (eqb d f.val) (has fs f.var d) (in_set (get_or ms f.var 0) d))
    go (no h) = rw (ne_eqb v f.var h, get_or-set_other ms f.var v word 0 h) refl

-- effects put in turn are the relaxed step
pub put_all_step : (a : Action) (ms : List ℕ) → Rising 0 a.eff → length ms ≡ 64 → sets_of (put_all a.eff ms) ≡ step relaxed a (sets_of ms)
unfolding step
put_all_step a ms r n = fun_ext (λ v. fun_ext (λ d. put_all_at a.eff ms 0 r n v d ∙ ap (λ (b : Bool). has a.eff v d || b) (sym (and-true (sets_of ms v d)))))

-- one turn of a loop over the facts of a list of numbers, and its end
module _ (l : List ℕ) (k t : ℕ) (h : k < t) (b : t ≤ length l) where
  pub facts_in_cons : facts_in l k t ≡ fact_of (get_or l k 0) ∷ facts_in l (k + 1) t
  unfolding facts_in
  facts_in_cons = rw (slice-cons k t l 0 h b, add-one) refl

pub facts_in_none : (l : List ℕ) (k t : ℕ) → k ≡ t → facts_in l k t ≡ []
unfolding facts_in
facts_in_none l k t e = rw (e, slice_empty t l) refl
