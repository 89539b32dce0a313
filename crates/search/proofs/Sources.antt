-- The sources of an arc: the one value that its action needs, or any.
use mathlib.Core.Path.{◌≡◌, refl, sym, ◌∙◌}
use mathlib.Core.Bool.{Bool, true, false, ◌&&◌, and-true, and-false, and_comm}
use mathlib.Core.List.{List}
use mathlib.Core.Option as math
use Prim.Native.Nat.{ℕ, ◌+◌, ◌-◌, ◌/◌, ◌%◌, ◌^◌, ◌<◌}
use native.Mathlib.Omega.{arith}
use native.Mathlib.Decide.{ℕ_discrete}
use borrow.Author.Tests.{eq-eqb, ne_eqb}
use lib.Bits.{bit_and}
use lib.Dec.{eqb}
use lib.ListN.{length, get_or, take, drop, length-drop}
use Rattle.std.proofs.lemmas.List.{take_all}
use Rattle.std.specs.Prelude.{Some}
use Rattle.planning.specs.Record.{Task}
use Rattle.planning.specs.Runs.{State, look, holds, act}
use Rattle.planning.specs.Painting.{fits}
use Rattle.task.specs.Task.{fact_of, facts_of}
use Rattle.sets.specs.Sets.{in_set, sets_of, Asked}
use Rattle.sets.proofs.Members.{in_set_single, in_set_empty, in_set_and}
use Rattle.sets.proofs.Slices.{facts_of_drop}
use Rattle.search.specs.Search.{source_of}

-- the sources: the one value that is asked, where it is held, or any
sources_one : (rest own d m c : ℕ) (o : math.Option ℕ) → Asked o (Some d) → m ≡ 2 ^ d → in_set (bit_and (bit_and rest own) m) c ≡ (in_set rest c && (in_set own d && fits o c))
unfolding fits
sources_one rest own d m c math.none e k = absurd (cc)
sources_one rest own d m c (math.some x) e k = let same : d ≡ x = cc (e.0) in rw (k, in_set_and (bit_and rest own) (2 ^ d) c, in_set_and rest own c, in_set_single d c, same) (go (ℕ_discrete c x))
  where
    go : Dec (c ≡ x) → ((in_set rest c && in_set own c) && eqb c x) ≡ (in_set rest c && (in_set own x && eqb x c))
    go (yes q) = rw (eq-eqb c x q, eq-eqb x c (sym q), q) (simp and-true)
    go (no n) = rw (ne_eqb c x n, ne_eqb x c (λ q. n (sym q))) (simp and-false)

sources_any : (rest c : ℕ) (o : math.Option ℕ) → o ≡ math.none → in_set rest c ≡ (in_set rest c && fits o c)
unfolding fits
sources_any rest c o e = rw e (sym (and-true (in_set rest c)))

-- the fact at k, of v, is held, and those behind it
pub holds_next : (l ever : List ℕ) (k v f : ℕ) → k < length l → f ≡ get_or l k 0 → f / 64 ≡ v
    → holds (sets_of ever) (facts_of (drop k l)) ≡ (in_set (get_or ever v 0) (f % 64) && holds (sets_of ever) (facts_of (take (length l - (k + 1)) (drop (k + 1) l))))
unfolding holds fact_of sets_of
holds_next l ever k v f h e q = rw (take_all (length l - (k + 1)) (drop (k + 1) l) (omega (arith, length-drop (k + 1) l)), facts_of_drop l k h, ← e, q) refl

-- usable from one value, from any, or not
module _ (t : Task) (K : State) (i v rest : ℕ) where
  pub usable_one : (own d m r : ℕ) (h : Bool) → Asked (look (act t i).pre v) (Some d) → m ≡ 2 ^ d → holds K (act t i).pre ≡ (in_set own d && h)
      → ((c : ℕ) → in_set r c ≡ (in_set (bit_and (bit_and rest own) m) c && h)) → (c : ℕ) → in_set r c ≡ (in_set rest c && source_of t K v i c)
  unfolding source_of
  usable_one own d m r h q e y s c =
      s c ∙ rw (sources_one rest own d m c (look (act t i).pre v) q e, y) (turn (in_set rest c) (in_set own d) h (fits (look (act t i).pre v) c))
    where
      turn : (r o h f : Bool) → ((r && (o && f)) && h) ≡ (r && ((o && h) && f))
      turn true true h f = and_comm f h
      turn true false h f = refl
      turn false o h f = refl

  pub usable_any : look (act t i).pre v ≡ math.none → holds K (act t i).pre ≡ true → (c : ℕ) → in_set rest c ≡ (in_set rest c && source_of t K v i c)
  unfolding source_of
  usable_any q y c = rw y (sources_any rest c (look (act t i).pre v) q)

  pub usable_no : holds K (act t i).pre ≡ false → (c : ℕ) → in_set 0 c ≡ (in_set rest c && source_of t K v i c)
  unfolding source_of
  usable_no e c = rw (e, and-false (in_set rest c)) (in_set_empty c)
