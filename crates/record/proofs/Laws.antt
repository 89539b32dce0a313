-- The checks of a record, case by case: what each test in the code says of the definition's checks.
use mathlib.Core.Path.{◌≡◌, refl, sym, ap, ◌∙◌}
use mathlib.Core.Bool.{true, false, ◌&&◌}
use mathlib.Core.Logic.{◌⊎◌, inl, inr}
use mathlib.Core.List.{List, [], ◌∷◌, ◌++◌}
use mathlib.Core.Option.{none}
use Prim.Native.Nat.{ℕ, zero, suc, ◌+◌, ◌-◌, ◌*◌, ◌/◌, ◌%◌, ◌^◌, ◌≤◌, ◌<◌}
use native.Mathlib.Nat.{lt_of_lt_of_le}
use lib.Pow.{pow_mono}
use native.Mathlib.Omega.{arith}
use borrow.Author.Tests.{eq-eqb, ne_eqb, le-leb, lt-leb, lt-ltb, le-ltb, eqb-true, leb-true, ltb-true}
use native.Mathlib.Decide.{ℕ_discrete, dec_lt}
use lib.Dec.{eqb, leb, ltb, leb→le, ltb→lt}
use lib.ListN.{length, get_or, set, replicate, length-set}
use lib.Seq.{get_or-set_same, get_or-set_other}
use Rattle.planning.specs.Basics.{Check, refuse, check, and_then, in_order, Answer, answer, refused, done, bits_at, holds_field}
use Rattle.planning.specs.Record.{variable_bit, variables_in, actions_in, count_in, header_checks, record_checks, record_check, preconditions_in, effects_in, effects_from, action_end}
use Rattle.planning.specs.Record.{actions_end, field_check, goal_fits, variable_checks, variables_checks, ends_at, record_end, fact_checks, facts_checks, action_checks}
use Rattle.planning.specs.Record.{actions_checks}
use Rattle.laws.proofs.Tests.{and_l, and_r}
use Rattle.laws.proofs.Checks.{check_none, and_then_none, in_order-++, in_order_passed, check_true}
use Rattle.laws.proofs.Fields.{action_end_le, actions_end_le, bits_at_below}
use Rattle.laws.proofs.Lists.{get_d_zeros}
use Rattle.bits.proofs.Window.{bits_at_add}
use Rattle.answers.proofs.Stages.{answer_done, answer_refused, answer_refusing, stage_passes, stage_stops, skip, skip_one, hit, hit_one, skip_stage, pass_end}
use Rattle.bits.specs.Windows.{Leading}
use Rattle.std.specs.Prelude.{Result, IsErrAnd, Option, Some, None, MatchOption, is_some}
use Rattle.std.proofs.lemmas.Result.{err_from_is_err_and}
use Rattle.answers.specs.declared.Refusal.{Refusal}
use Rattle.answers.specs.Answers.{number_of, check_of, answer_by}
use Rattle.record.specs.Stages.{Counts, Sound, Few, Unsound, SoundHeader, SoundVariable}
use Rattle.record.specs.Stages.{from_end}

-- the checks of a record from its actions on, from its variables on, and from either count on
unfoldable pub from_actions : List ℕ → List Check
from_actions s = actions_checks s (variable_bit (variables_in s)) (actions_in s) ++ from_end s

unfoldable pub from_variables : List ℕ → List Check
from_variables s = variables_checks s 22 (variables_in s) ++ from_actions s

unfoldable pub from_action_count : List ℕ → List Check
from_action_count s = field_check s 11 11 ∷ check (leb (actions_in s) 1024) 3 11 ∷ from_variables s

unfoldable pub from_variable_count : List ℕ → List Check
from_variable_count s = field_check s 4 7 ∷ check (leb 1 (variables_in s) && leb (variables_in s) 64) 3 4 ∷ from_action_count s

-- the checks of a variable at bit p from its goal on, and from its initial value on, last being its greatest value
unfoldable pub goal_checks : List ℕ → ℕ → ℕ → List Check
goal_checks s p last =
    field_check s (p + 13) 1
    ∷ field_check s (p + 14) 6 ∷ check (goal_fits (bits_at s (p + 13) 1) (bits_at s (p + 14) 6) (last + 1)) 4 (p + 14) ∷ []

unfoldable pub initial_checks : List ℕ → ℕ → ℕ → List Check
initial_checks s p last = field_check s (p + 7) 6 ∷ check (ltb (bits_at s (p + 7) 6) (last + 1)) 4 (p + 7) ∷ goal_checks s p last

-- the checks of the facts of the action at bit p
unfoldable pub action_facts_checks : List ℕ → ℕ → List Check
action_facts_checks s p = facts_checks s (p + 24) 0 (preconditions_in s p) ++ facts_checks s (effects_from s p) 0 (effects_in s p)

-- what a call gave where it passed, and where it refused
pub there : {A : Type 0} (c : Check) (a b : A) → done b ≡ answer c a → (c ≡ none) × (a ≡ b)
there c a b h = answer_done c a b (sym h)

pub not_there : {A : Type 0} (c : Check) (a : A) (n p : ℕ) → refused n p ≡ answer c a → c ≡ refuse n p
not_there c a n p h = answer_refused c a n p (sym h)

-- the refusal f that a `?` hands on in the result r, as an answer and as a check
module _ {A B : Type 0} (g : A → B) (r : Result A Refusal) (f : Refusal) (h : IsErrAnd r (λ e. e ≡ f)) where
  pub sent : (x : Answer B) → refused (number_of f.reason) f.place ≡ x → answer_by g r ≡ x
  sent x e = let p = err_from_is_err_and r h in rw (p.1, p.2) e

  pub stopped : {D : Type 0} (c : Check) (b : D) (xs : List Check) (d : B) → refused (number_of f.reason) f.place ≡ answer c b → answer_by g r ≡ answer (in_order (c ∷ xs)) d
  stopped c b xs d e = sent _ (hit c xs _ _ d (not_there c b _ _ e))

  pub stopped_stage : {D : Type 0} (xs ys : List Check) (b : D) (d : B) → refused (number_of f.reason) f.place ≡ answer (in_order xs) b → answer_by g r ≡ answer (in_order (xs ++ ys)) d
  stopped_stage xs ys b d e = sent _ (answer_refusing _ d _ _ (stage_stops xs ys _ _ (not_there (in_order xs) b _ _ e)))

module _ (r : Result Unit Refusal) (f : Refusal) (h : IsErrAnd r (λ e. e ≡ f)) where
  pub sent_check : (x : Check) → refuse (number_of f.reason) f.place ≡ x → check_of r ≡ x
  sent_check x e = let p = err_from_is_err_and r h in rw (p.1, p.2) e

  pub stopped_check : {D : Type 0} (c : Check) (b : D) (xs : List Check) → refused (number_of f.reason) f.place ≡ answer c b → check_of r ≡ in_order (c ∷ xs)
  stopped_check c b xs e = sent_check _ (sym (hit_one c xs _ _ (not_there c b _ _ e)))

  pub stopped_check_stage : {D : Type 0} (xs ys : List Check) (b : D) → refused (number_of f.reason) f.place ≡ answer (in_order xs) b → check_of r ≡ in_order (xs ++ ys)
  stopped_check_stage xs ys b e = sent_check _ (sym (stage_stops xs ys _ _ (not_there (in_order xs) b _ _ e)))

-- a check that passes leaves the rest to say, one that refuses is the answer
pub over : (x c : Check) (xs : List Check) → c ≡ none → x ≡ in_order xs → x ≡ in_order (c ∷ xs)
over x c xs e h = h ∙ sym (skip_one c xs e)

pub held : (c : Check) (xs : List Check) (n p : ℕ) → c ≡ refuse n p → refuse n p ≡ in_order (c ∷ xs)
held c xs n p e = sym (hit_one c xs n p e)

pub false_not : false ≡ true → ⊥
false_not e = let z : ◌≡◌ {A = ℕ} 0 1 = cc in absurd (omega arith)

-- a field that is there, and one that is not
field_there : (s : List ℕ) (p w : ℕ) → p + w ≤ 8 * length s → field_check s p w ≡ none
unfolding field_check holds_field check
field_there s p w h = rw (le-leb (p + w) (8 * length s) h) refl

field_short : (s : List ℕ) (p w : ℕ) → 8 * length s < p + w → field_check s p w ≡ refuse 1 p
unfolding field_check holds_field check
field_short s p w h = rw (lt-leb (p + w) (8 * length s) h) refl

field_fits : (s : List ℕ) (p w : ℕ) → field_check s p w ≡ none → p + w ≤ 8 * length s
unfolding field_check holds_field
field_fits s p w e = leb-true (p + w) (8 * length s) (check_true (leb (p + w) (8 * length s)) 1 p e)

pub take_there : (s : List ℕ) (p w : ℕ) → p + w ≤ 8 * length s → done (bits_at s p w) ≡ answer (field_check s p w) (bits_at s p w)
unfolding answer
take_there s p w h = rw (field_there s p w h) refl

pub take_short : (s : List ℕ) (p w v : ℕ) → 8 * length s < p + w → refused 1 p ≡ answer (field_check s p w) v
unfolding answer
take_short s p w v h = rw (field_short s p w h) refl

-- fewer than 26 bits fit 32
pub bits_at_u32 : (s : List ℕ) (p w r : ℕ) → r ≡ bits_at s p w → w ≤ 25 → r < 2 ^ 32
bits_at_u32 s p w r e h = rw e (lt_of_lt_of_le (bits_at_below s p w) (pow_mono {j = 32} (omega arith)))

-- the end: a wrong count of bytes, padding that is not 0, and neither
module _ (s : List ℕ) (p : ℕ) (e : p ≡ record_end s) where
  pub end_bytes : (length s ≡ (p + 7) / 8 → ⊥) → refuse 6 p ≡ in_order (from_end s)
  unfolding from_end in_order and_then ends_at check
  end_bytes h = rw (← e, ne_eqb (length s) ((p + 7) / 8) h) refl

  pub end_padding : (w r : ℕ) → length s ≡ (p + 7) / 8 → w ≡ 8 * length s - p → r ≡ bits_at s p w → (r ≡ 0 → ⊥) → refuse 6 p ≡ in_order (from_end s)
  unfolding from_end in_order and_then ends_at check
  end_padding w r h f g k = rw (← e, eq-eqb (length s) ((p + 7) / 8) h, ← f, ← g, ne_eqb r 0 k) refl

  pub end_right : (w r : ℕ) → length s ≡ (p + 7) / 8 → w ≡ 8 * length s - p → r ≡ bits_at s p w → r ≡ 0 → none ≡ in_order (from_end s)
  unfolding from_end in_order and_then ends_at check
  end_right w r h f g k = rw (← e, eq-eqb (length s) ((p + 7) / 8) h, ← f, ← g, eq-eqb r 0 k) refl

-- a fact's two fields in one
module _ (s : List ℕ) (p w : ℕ) (e : w ≡ bits_at s p 12) where
  fact_var : w / 64 ≡ bits_at s p 6
  fact_var = omega (arith, bits_at_add s p 6 6, bits_at_below s (p + 6) 6)

  fact_val : w % 64 ≡ bits_at s (p + 6) 6
  fact_val = omega (arith, bits_at_add s p 6 6, bits_at_below s (p + 6) 6)

-- the checks of a fact: its variable, and its value against the count of that variable
module _ (s : List ℕ) (p low n v : ℕ) (en : n ≡ variables_in s) (ev : bits_at s p 6 ≡ v) where
  var_above : n ≤ v → check (ltb (bits_at s p 6) (variables_in s) && leb low (bits_at s p 6)) 5 p ≡ refuse 5 p
  unfolding check
  var_above h = rw (ev, ← en, le-ltb v n h) refl

  var_low : v < n → v < low → check (ltb (bits_at s p 6) (variables_in s) && leb low (bits_at s p 6)) 5 p ≡ refuse 5 p
  unfolding check
  var_low h k = rw (ev, ← en, lt-ltb v n h, lt-leb low v k) refl

  pub var_wrong : (n ≤ v) ⊎ ((v < n) × (v < low)) → check (ltb (bits_at s p 6) (variables_in s) && leb low (bits_at s p 6)) 5 p ≡ refuse 5 p
  var_wrong h = elim h [
    | inl k ↦ var_above k
    | inr k ↦ var_low k.0 k.1
  ]

  pub var_right : v < n → low ≤ v → check (ltb (bits_at s p 6) (variables_in s) && leb low (bits_at s p 6)) 5 p ≡ none
  unfolding check
  var_right h k = rw (ev, ← en, lt-ltb v n h, le-leb low v k) refl

module _ (s : List ℕ) (p v l d : ℕ) (ev : bits_at s p 6 ≡ v) (el : l ≡ count_in s v) (ed : bits_at s (p + 6) 6 ≡ d) where
  pub val_above : l ≤ d % 64 → check (ltb (bits_at s (p + 6) 6) (count_in s (bits_at s p 6))) 4 (p + 6) ≡ refuse 4 (p + 6)
  unfolding check
  val_above h = rw (ev, ← el, ed, le-ltb d l (omega (arith, ed, bits_at_below s (p + 6) 6))) refl

  pub val_right : d % 64 < l → check (ltb (bits_at s (p + 6) 6) (count_in s (bits_at s p 6))) 4 (p + 6) ≡ none
  unfolding check
  val_right h = rw (ev, ← el, ed, lt-ltb d l (omega (arith, ed, bits_at_below s (p + 6) 6))) refl

-- a run of facts: one more that is right, one that is refused, and the end
module _ (s : List ℕ) (p low n i : ℕ) (h : i < n) where
  pub facts_step : in_order (facts_checks s (p + 12 * i) low (n - i)) ≡ in_order (fact_checks s (p + 12 * i) low ++ facts_checks s (p + 12 * (i + 1)) (bits_at s (p + 12 * i) 6 + 1) (n - (i + 1)))
  unfolding facts_checks
  facts_step =
      let e : n - i ≡ suc (n - (i + 1)) = omega arith in
      let f : p + 12 * i + 12 ≡ p + 12 * (i + 1) = omega arith in
      rw (e, f) refl

  pub facts_turn : (v : ℕ) → (in_order (fact_checks s (p + 12 * i) low) ≡ none) × (bits_at s (p + 12 * i) 6 ≡ v)
      → in_order (facts_checks s (p + 12 * i) low (n - i)) ≡ in_order (facts_checks s (p + 12 * (i + 1)) (v + 1) (n - (i + 1)))
  facts_turn v a =
      facts_step
      ∙ (stage_passes (fact_checks s (p + 12 * i) low) (facts_checks s (p + 12 * (i + 1)) (bits_at s (p + 12 * i) 6 + 1) (n - (i + 1))) a.0
      ∙ ap (λ (x : ℕ). in_order (facts_checks s (p + 12 * (i + 1)) (x + 1) (n - (i + 1)))) a.1)

pub facts_none : (s : List ℕ) (p low n i : ℕ) → n ≤ i → in_order (facts_checks s p low (n - i)) ≡ none
unfolding facts_checks in_order
facts_none s p low n i h = let e : n - i ≡ 0 = omega arith in rw e refl

-- a fact that the quick test passes
module _ (s : List ℕ) (p low f : ℕ) (counts : List ℕ) (e : f ≡ bits_at s p 12) (all : p + 12 ≤ 8 * length s) (C : Counts s counts (variables_in s)) (S : Sound counts f low) where
  known : Dec (f / 64 < variables_in s) → f / 64 < variables_in s
  known (yes h) = h
  known (no h) = absurd (omega (arith, S.value, C.behind (f / 64) (omega arith)))

  sound_passes : in_order (fact_checks s p low) ≡ none
  unfolding fact_checks in_order and_then
  sound_passes =
      let h : f / 64 < variables_in s = known (dec_lt (f / 64) (variables_in s)) in
      let ev = sym (fact_var s p f e) in
      rw (
        field_there s p 6 (omega arith),
        var_right s p low (variables_in s) (f / 64) refl ev h S.rises,
        field_there s (p + 6) 6 (omega arith),
        val_right s p (f / 64) (get_or counts (f / 64) 0) (f % 64) ev (C.right (f / 64) h) (sym (fact_val s p f e)) (omega (arith, S.value)),
      )
      refl

  sound_step : (m : ℕ) → in_order (facts_checks s p low (suc m)) ≡ in_order (facts_checks s (p + 12) (f / 64 + 1) m)
  unfolding facts_checks
  sound_step m =
      stage_passes (fact_checks s p low) (facts_checks s (p + 12) (bits_at s p 6 + 1) m) sound_passes
      ∙ ap (λ (x : ℕ). in_order (facts_checks s (p + 12) (x + 1) m)) (sym (fact_var s p f e))

-- and a fact that passes its checks is sound
stage_parts : (xs ys : List Check) → in_order (xs ++ ys) ≡ none → (in_order xs ≡ none) × (in_order ys ≡ none)
stage_parts xs ys e = and_then_none (in_order xs) (in_order ys) (sym (in_order-++ xs ys) ∙ e)

fact_sound : (s : List ℕ) (p low f : ℕ) (counts : List ℕ) → f ≡ bits_at s p 12 → Counts s counts (variables_in s) → in_order (fact_checks s p low) ≡ none → Sound counts f low
unfolding fact_checks
fact_sound s p low f counts e C h =
    let P = in_order_passed (fact_checks s p low) h in
    let a = check_none (ltb (bits_at s p 6) (variables_in s) && leb low (bits_at s p 6)) 5 p P.1.0 in
    let b = check_none (ltb (bits_at s (p + 6) 6) (count_in s (bits_at s p 6))) 4 (p + 6) P.1.1.1.0 in
    let v : bits_at s p 6 < variables_in s = ltb→lt (bits_at s p 6) (variables_in s) (search and_l) in
    let l : low ≤ bits_at s p 6 = leb→le low (bits_at s p 6) (search and_r) in
    let d = ltb→lt (bits_at s (p + 6) 6) (count_in s (bits_at s p 6)) b in
    record { rises = rw (fact_var s p f e) l; value = rw (fact_var s p f e, fact_val s p f e, C.right (bits_at s p 6) v) d }

-- fact k of a window
pub leading_fact : (s : List ℕ) (p w k : ℕ) → Leading s p w → k ≤ 3 → p + 12 * (k + 1) ≤ 8 * length s → w / 2 ^ (64 - (12 * k + 12)) % 4096 ≡ bits_at s (p + 12 * k) 12
leading_fact s p w k L h l =
    rw (L (12 * k + 12) (omega arith) (omega arith)) (omega (arith, bits_at_add s p (12 * k) 12, bits_at_below s (p + 12 * k) 12))

-- the facts of a window: none, and one more
pub few_none : (w low : ℕ) (counts : List ℕ) → Few w 0 low counts low
few_none w low counts =
    record {
      passes = λ s p m L l C. let e : 0 + m ≡ m = omega arith in let f : p + 12 * 0 ≡ p = omega arith in rw (e, f) refl;
    }

pub few_more : (w n k low : ℕ) (counts : List ℕ) (r f next : ℕ) → n ≡ k + 1 → k ≤ 3 → Few w k low counts r → f ≡ w / 2 ^ (64 - (12 * k + 12)) % 4096 → Sound counts f r × (next ≡ f / 64 + 1) → Few w n low counts next
few_more w n k low counts r f next en h F ef S = record { passes = rw S.1 more }
  where
    more : (s : List ℕ) (p m : ℕ) → Leading s p w → p + 12 * n ≤ 8 * length s → Counts s counts (variables_in s) → in_order (facts_checks s p low (n + m)) ≡
        in_order (facts_checks s (p + 12 * n) (f / 64 + 1) m)
    more s p m L l C =
        let e1 : n + m ≡ k + suc m = omega arith in
        let e2 : p + 12 * n ≡ p + 12 * k + 12 = omega arith in
        rw (e1, e2) (F.passes s p (suc m) L (omega arith) C ∙ sound_step s (p + 12 * k) r f counts (ef ∙ leading_fact s p w k L h (omega arith)) (omega arith) C S.0 m)

-- and one that is not sound
pub few_stops : (w n k low : ℕ) (counts : List ℕ) (r f : ℕ) → k < n → n ≤ 4 → Few w k low counts r → f ≡ w / 2 ^ (64 - (12 * k + 12)) % 4096 → (Sound counts f r → ⊥) → Unsound w n low counts
unfolding facts_checks
few_stops w n k low counts r f h l F ef N = record { refuses = stops }
  where
    stops : (s : List ℕ) (p m : ℕ) → Leading s p w → p + 12 * n ≤ 8 * length s → Counts s counts (variables_in s) → in_order (facts_checks s p low (n + m)) ≡ none → ⊥
    stops s p m L b C e =
        let j = n - (k + 1) + m in
        let q : n + m ≡ k + suc j = omega arith in
        let a : in_order (facts_checks s (p + 12 * k) r (suc j)) ≡ none = sym (F.passes s p (suc j) L (omega arith) C) ∙ (rw q at e) in
        let d = stage_parts (fact_checks s (p + 12 * k) r) (facts_checks s (p + 12 * k + 12) (bits_at s (p + 12 * k) 6 + 1) j) a in
        N (fact_sound s (p + 12 * k) r f counts (ef ∙ leading_fact s p w k L (omega arith) (omega arith)) C d.0)

-- the last fact that is asked for, as its test says
pub few_last : (w n k low : ℕ) (counts : List ℕ) (r f : ℕ) (o : Option ℕ) → n ≡ k + 1 → n ≤ 4 → Few w k low counts r → f ≡ w / 2 ^ (64 - (12 * k + 12)) % 4096
    → MatchOption o (Sound counts f r → ⊥) (λ next. Sound counts f r × (next ≡ f / 64 + 1)) → MatchOption o (Unsound w n low counts) (λ next. Few w n low counts next)
few_last w n k low counts r f None en h F ef S = few_stops w n k low counts r f (omega arith) h F ef S
few_last w n k low counts r f (Some next) en h F ef S = few_more w n k low counts r f next en (omega arith) F ef S

pub few_as : (w n k low : ℕ) (counts : List ℕ) (r : ℕ) → n ≡ k → Few w k low counts r → Few w n low counts r
few_as w n k low counts r e F = rw e F

-- a list of facts, window by window
pub record Run (s : List ℕ) (from count at low left : ℕ) : Type 0 where
  pub within : left ≤ count
  pub place : at + 12 * left ≡ from + 12 * count
  pub checks : in_order (facts_checks s from 0 count) ≡ in_order (facts_checks s at low left)

pub run_start : (s : List ℕ) (from count : ℕ) → Run s from count from 0 count
run_start s from count = record { within = omega arith; place = refl; checks = refl }

module _ (s : List ℕ) (from count at low left w : ℕ) (counts : List ℕ) (I : Run s from count at low left) (L : Leading s at w)
    (there : from + 12 * count ≤ 8 * length s) (C : Counts s counts (variables_in s)) where
  pub run_turn : (r : ℕ) → 4 < left → Few w 4 low counts r → Run s from count (at + 48) r (left - 4)
  run_turn r h F =
      let e : left ≡ 4 + (left - 4) = omega arith in
      record {
        within = omega (arith, I.within);
        place = omega (arith, I.place);
        checks = I.checks ∙ (ap (λ (x : ℕ). in_order (facts_checks s at low x)) e ∙ F.passes s at (left - 4) L (omega (arith, I.place)) C);
      }

  pub run_last : (r : ℕ) → Few w left low counts r → in_order (facts_checks s from 0 count) ≡ none
  unfolding facts_checks in_order
  run_last r F =
      let e : left ≡ left + 0 = omega arith in
      I.checks ∙ (ap (λ (x : ℕ). in_order (facts_checks s at low x)) e ∙ F.passes s at 0 L (omega (arith, I.place)) C)

  pub run_decides : (o : Option ℕ) → MatchOption o (Unsound w left low counts) (λ next. Few w left low counts next) → is_some o ≡ true → in_order (facts_checks s from 0 count) ≡ none
  run_decides None h e = absurd (false_not e)
  run_decides (Some r) h e = run_last r h

  pub run_stop : (n : ℕ) → n ≤ left → Unsound w n low counts → in_order (facts_checks s from 0 count) ≡ none → ⊥
  run_stop n h U e =
      let q : n + (left - n) ≡ left = omega arith in
      U.refuses s at (left - n) L (omega (arith, I.place)) C (ap (λ (x : ℕ). in_order (facts_checks s at low x)) q ∙ (sym I.checks ∙ e))

pub run_none : (s : List ℕ) (from count at low left : ℕ) → Run s from count at low left → left ≡ 0 → in_order (facts_checks s from 0 count) ≡ none
unfolding facts_checks in_order
run_none s from count at low left I e = I.checks ∙ rw e refl

-- the goal: present is a bit, and without a goal its value is 0
pub bit_times : (last b : ℕ) → b < 2 → last * b ≤ last
bit_times last zero h = omega arith
bit_times last (suc zero) h = omega arith
bit_times last (suc (suc b)) h = absurd (omega arith)

module _ (s : List ℕ) (p last b g : ℕ) (eb : bits_at s (p + 13) 1 ≡ b) (eg : bits_at s (p + 14) 6 ≡ g) where
  goal_test : (b : ℕ) → b < 2 → goal_fits b g (last + 1) ≡ leb g (last * b)
  unfolding goal_fits
  goal_test zero h = elim (ℕ_discrete g 0) [
    | yes e ↦ eq-eqb g 0 e ∙ sym (le-leb g (last * 0) (omega arith))
    | no e ↦ ne_eqb g 0 e ∙ sym (lt-leb g (last * 0) (omega arith))
  ]
  goal_test (suc zero) h = elim (dec_lt g (last + 1)) [
    | yes e ↦ lt-ltb g (last + 1) e ∙ sym (le-leb g (last * 1) (omega arith))
    | no e ↦ le-ltb g (last + 1) (omega arith) ∙ sym (lt-leb g (last * 1) (omega arith))
  ]
  goal_test (suc (suc b)) h = absurd (omega arith)

  fit : goal_fits (bits_at s (p + 13) 1) (bits_at s (p + 14) 6) (last + 1) ≡ leb g (last * b)
  fit = rw (eb, eg) (goal_test b (omega (arith, eb, bits_at_below s (p + 13) 1)))

  pub goal_above : last * b < g → check (goal_fits (bits_at s (p + 13) 1) (bits_at s (p + 14) 6) (last + 1)) 4 (p + 14) ≡ refuse 4 (p + 14)
  unfolding check
  goal_above h = rw (fit, lt-leb g (last * b) h) refl

  pub goal_right : g ≤ last * b → check (goal_fits (bits_at s (p + 13) 1) (bits_at s (p + 14) 6) (last + 1)) 4 (p + 14) ≡ none
  unfolding check
  goal_right h = rw (fit, le-leb g (last * b) h) refl

-- a value against the greatest one
pub value_above : (d e last n p : ℕ) → e ≡ d → last < d → check (ltb e (last + 1)) n p ≡ refuse n p
unfolding check
value_above d e last n p q h = rw (q, le-ltb d (last + 1) (omega arith)) refl

pub value_right : (d e last n p : ℕ) → e ≡ d → d ≤ last → check (ltb e (last + 1)) n p ≡ none
unfolding check
value_right d e last n p q h = rw (q, lt-ltb d (last + 1) (omega arith)) refl

-- a variable: its count and its colour are there, and the rest says
pub variable_rest : (s : List ℕ) (p last : ℕ) (a : Answer ℕ) → bits_at s p 6 ≡ last → field_check s p 6 ≡ none → field_check s (p + 6) 1 ≡ none
    → a ≡ answer (in_order (initial_checks s p last)) last → a ≡ answer (in_order (variable_checks s p)) (bits_at s p 6)
unfolding variable_checks initial_checks goal_checks
variable_rest s p last a e f g h = skip _ _ _ _ f (skip _ _ _ _ g (rw e h))

-- a variable whose 20 bits the quick test passes
module _ (s : List ℕ) (p b : ℕ) (e : b ≡ bits_at s p 20) where
  split_20 : (b / 16384 ≡ bits_at s p 6) × (b / 128 % 64 ≡ bits_at s (p + 7) 6) × (b / 64 % 2 ≡ bits_at s (p + 13) 1) × (b % 64 ≡ bits_at s (p + 14) 6)
  split_20 =
      let f1 = bits_at_add s p 14 6 in
      let f2 = bits_at_add s p 13 1 in
      let f3 = bits_at_add s p 7 6 in
      let f4 = bits_at_add s p 6 1 in
      let g1 = bits_at_below s (p + 14) 6 in
      let g2 = bits_at_below s (p + 13) 1 in
      let g3 = bits_at_below s (p + 7) 6 in
      let g4 = bits_at_below s (p + 6) 1 in
      (omega arith, omega arith, omega arith, omega arith)

  pub variable_sound : p + 20 ≤ 8 * length s → SoundVariable b → done (b / 16384) ≡ answer (in_order (variable_checks s p)) (bits_at s p 6)
  unfolding goal_checks initial_checks
  variable_sound l S =
      let f = split_20 in
      variable_rest s p (b / 16384) (done (b / 16384)) (sym f.0) (field_there s p 6 (omega arith)) (field_there s (p + 6) 1 (omega arith)) (initial f)
    where
      goal : (b / 16384 ≡ bits_at s p 6) × (b / 128 % 64 ≡ bits_at s (p + 7) 6) × (b / 64 % 2 ≡ bits_at s (p + 13) 1) × (b % 64 ≡ bits_at s (p + 14) 6) → done
          (b / 16384) ≡ answer (in_order (goal_checks s p (b / 16384))) (b / 16384)
      goal f =
          skip _ _ _ _ (field_there s (p + 13) 1 (omega arith))
          (skip _ _ _ _ (field_there s (p + 14) 6 (omega arith)) (skip _ _ _ _ (goal_right s p (b / 16384) (b / 64 % 2) (b % 64) (sym f.2) (sym f.3) S.goal) (pass_end (b / 16384))))

      initial : (b / 16384 ≡ bits_at s p 6) × (b / 128 % 64 ≡ bits_at s (p + 7) 6) × (b / 64 % 2 ≡ bits_at s (p + 13) 1) × (b % 64 ≡ bits_at s (p + 14) 6) → done
          (b / 16384) ≡ answer (in_order (initial_checks s p (b / 16384))) (b / 16384)
      initial f = skip _ _ _ _ (field_there s (p + 7) 6 (omega arith)) (skip _ _ _ _ (value_right (b / 128 % 64) (bits_at s (p + 7) 6) (b / 16384) 4 (p + 7) (sym f.1) S.initial) (goal f))

  -- and one whose checks pass is sound
  pub variable_exact : in_order (variable_checks s p) ≡ none → SoundVariable b
  unfolding variable_checks
  variable_exact h =
      let f = split_20 in
      let P = in_order_passed (variable_checks s p) h in
      let i = check_true (ltb (bits_at s (p + 7) 6) (bits_at s p 6 + 1)) 4 (p + 7) P.1.1.1.0 in
      let g = check_true (goal_fits (bits_at s (p + 13) 1) (bits_at s (p + 14) 6) (bits_at s p 6 + 1)) 4 (p + 14) P.1.1.1.1.1.1.0 in
      let k = sym (fit s p (bits_at s p 6) (bits_at s (p + 13) 1) (bits_at s (p + 14) 6) refl refl) ∙ g in
      record {
        initial = rw (f.0, f.1) (omega (arith, ltb-true (bits_at s (p + 7) 6) (bits_at s p 6 + 1) i));
        goal = rw (f.0, f.2, f.3) (leb-true (bits_at s (p + 14) 6) (bits_at s p 6 * bits_at s (p + 13) 1) k);
      }

pub variable_fits : (s : List ℕ) (p : ℕ) → in_order (variable_checks s p) ≡ none → p + 20 ≤ 8 * length s
unfolding variable_checks
variable_fits s p h = let P = in_order_passed (variable_checks s p) h in omega (arith, field_fits s (p + 14) 6 P.1.1.1.1.1.0)

-- the facts of an action: the preconditions refuse, or pass and the effects say
module _ (s : List ℕ) (p pre : ℕ) (ep : pre ≡ preconditions_in s p) where
  pub pre_refused : (r : Result ℕ Refusal) (f : Refusal) → IsErrAnd r (λ e. e ≡ f) → (b d : ℕ) → refused (number_of f.reason) f.place ≡ answer (in_order (facts_checks s (p + 24) 0 pre)) b → answer_by (λ v. v) r ≡ answer (in_order (action_facts_checks s p)) d
  unfolding action_facts_checks
  pre_refused r f h b d e = rw (← ep) (stopped_stage _ r f h _ _ b d e)

  pub eff_answer : (eff mid : ℕ) (a : Answer ℕ) → eff ≡ effects_in s p → (in_order (facts_checks s (p + 24) 0 pre) ≡ none) × (p + 24 + 12 * pre ≡ mid) → a ≡ answer
      (in_order (facts_checks s mid 0 eff)) (mid + 12 * eff)
      → a ≡ answer (in_order (action_facts_checks s p)) (action_end s p)
  unfolding action_facts_checks action_end effects_from
  eff_answer eff mid a ee e h = rw (← ep, ← ee, e.1) (skip_stage (facts_checks s (p + 24) 0 pre) (facts_checks s mid 0 eff) a (mid + 12 * eff) e.0 h)

-- the two counts of an action in one
module _ (s : List ℕ) (p b : ℕ) (e : b ≡ bits_at s (p + 16) 8) where
  both : bits_at s (p + 16) 8 ≡ bits_at s (p + 16) 4 * 16 + bits_at s (p + 20) 4
  both = let f : p + 16 + 4 ≡ p + 20 = omega arith in rw f at (bits_at_add s (p + 16) 4 4)

  pub pre_count : b / 16 ≡ preconditions_in s p
  unfolding preconditions_in
  pre_count = omega (arith, both, bits_at_below s (p + 20) 4)

  pub eff_count : b % 16 ≡ effects_in s p
  unfolding effects_in
  eff_count = omega (arith, both, bits_at_below s (p + 20) 4)

-- an action whose head is there and whose facts pass
pub action_sound :
    (s : List ℕ) (p pre eff : ℕ) → pre ≡ preconditions_in s p → eff ≡ effects_in s p → p + 24 ≤ 8 * length s → in_order (facts_checks s (p + 24) 0 pre) ≡ none
    → in_order (facts_checks s (p + 24 + 12 * pre) 0 eff) ≡ none → (in_order (action_checks s p) ≡ none) × (p + 24 + 12 * (pre + eff) ≡ action_end s p)
unfolding action_checks action_end effects_from in_order and_then
action_sound s p pre eff ep ee l f g = (
  rw (field_there s p 16 (omega arith), field_there s (p + 16) 4 (omega arith), field_there s (p + 20) 4 (omega arith), ← ep, ← ee)
      (stage_passes (facts_checks s (p + 24) 0 pre) (facts_checks s (p + 24 + 12 * pre) 0 eff) f ∙ g),
  omega arith,
)

-- and what an action that passes its checks has: the bytes hold it, and both lists pass
facts_fit : (s : List ℕ) (p low n : ℕ) → p ≤ 8 * length s → in_order (facts_checks s p low n) ≡ none → p + 12 * n ≤ 8 * length s
unfolding facts_checks fact_checks
facts_fit s p low zero l e = omega arith
facts_fit s p low (suc n) l e =
    let h = stage_parts (fact_checks s p low) (facts_checks s (p + 12) (bits_at s p 6 + 1) n) e in
    let P = in_order_passed (fact_checks s p low) h.0 in
    let b = field_fits s (p + 6) 6 P.1.1.0 in
    omega (arith, facts_fit s (p + 12) (bits_at s p 6 + 1) n (omega arith) h.1)

pub record Passing (s : List ℕ) (p : ℕ) : Type 0 where
  pub head : p + 24 ≤ 8 * length s
  pub whole : action_end s p ≤ 8 * length s
  pub pre : in_order (facts_checks s (p + 24) 0 (preconditions_in s p)) ≡ none
  pub eff : in_order (facts_checks s (p + 24 + 12 * preconditions_in s p) 0 (effects_in s p)) ≡ none

pub action_exact : (s : List ℕ) (p : ℕ) → in_order (action_checks s p) ≡ none → Passing s p
unfolding action_checks action_end effects_from
action_exact s p e =
    let head : List Check = field_check s p 16 ∷ field_check s (p + 16) 4 ∷ field_check s (p + 20) 4 ∷ [] in
    let P = stage_parts head (facts_checks s (p + 24) 0 (preconditions_in s p) ++ facts_checks s (p + 24 + 12 * preconditions_in s p) 0 (effects_in s p)) e in
    let Q = stage_parts (facts_checks s (p + 24) 0 (preconditions_in s p)) (facts_checks s (p + 24 + 12 * preconditions_in s p) 0 (effects_in s p)) P.1 in
    let h = field_fits s (p + 20) 4 (in_order_passed head P.0).1.1.0 in
    let a = facts_fit s (p + 24) 0 (preconditions_in s p) (omega arith) Q.0 in
    record {
      head = omega arith;
      whole = facts_fit s (p + 24 + 12 * preconditions_in s p) 0 (effects_in s p) a Q.1;
      pre = Q.0;
      eff = Q.1;
    }

pub action_done : (s : List ℕ) (p end : ℕ) → (in_order (action_checks s p) ≡ none) × (end ≡ action_end s p) → done end ≡ answer (in_order (action_checks s p)) (action_end s p)
unfolding answer
action_done s p end a = rw (a.0, a.1) refl

-- a run of actions: where it starts, one more that is right, and the end
pub record Behind (s : List ℕ) (from count at i : ℕ) : Type 0 where
  pub within : i ≤ count
  pub below : at ≤ 1302 + 384 * i
  pub checks : in_order (actions_checks s from count) ≡ in_order (actions_checks s at (count - i))
  pub ends : actions_end s from count ≡ actions_end s at (count - i)

pub actions_start : (s : List ℕ) (from count : ℕ) → from ≤ 1302 → Behind s from count from 0
actions_start s from count h = let e : count - 0 ≡ count = omega arith in record { within = omega arith; below = omega arith; checks = rw e refl; ends = rw e refl }

module _ (s : List ℕ) (from count at i : ℕ) (I : Behind s from count at i) where
  actions_step : i < count → in_order (actions_checks s from count) ≡ in_order (action_checks s at ++ actions_checks s (action_end s at) (count - (i + 1)))
  unfolding actions_checks
  actions_step h = let e : count - i ≡ suc (count - (i + 1)) = omega arith in I.checks ∙ rw e refl

  pub action_stops : (r : Result ℕ Refusal) (f : Refusal) → IsErrAnd r (λ e. e ≡ f) → (b d : ℕ) → i < count → refused (number_of f.reason) f.place ≡ answer (in_order (action_checks s at)) b → answer_by (λ v. v) r ≡ answer (in_order (actions_checks s from count)) d
  action_stops r f h b d k e = rw (actions_step k) (stopped_stage _ r f h _ _ b d e)

  pub action_here : i < count → in_order (actions_checks s from count) ≡ none → in_order (action_checks s at) ≡ none
  action_here h e = (stage_parts (action_checks s at) (actions_checks s (action_end s at) (count - (i + 1))) (sym (actions_step h) ∙ e)).0

  pub actions_turn : (end : ℕ) → i < count → (in_order (action_checks s at) ≡ none) × (action_end s at ≡ end) → Behind s from count end (i + 1)
  unfolding actions_end
  actions_turn end h a =
      let e : count - i ≡ suc (count - (i + 1)) = omega arith in
      record {
        within = omega arith;
        below = omega (arith, a.1, action_end_le s at, I.below);
        checks = actions_step h ∙ (stage_passes (action_checks s at) (actions_checks s (action_end s at) (count - (i + 1))) a.0 ∙ ap (λ (x : ℕ). in_order (actions_checks s x (count - (i + 1)))) a.1);
        ends = I.ends ∙ rw e (ap (λ (x : ℕ). actions_end s x (count - (i + 1))) a.1);
      }

  pub actions_done : count ≤ i → done at ≡ answer (in_order (actions_checks s from count)) (actions_end s from count)
  unfolding actions_checks actions_end in_order answer
  actions_done h = let e : count - i ≡ 0 = omega arith in rw (I.checks, I.ends, e) refl

-- the count of values of a variable
pub count_is : (s : List ℕ) (v last : ℕ) → bits_at s (variable_bit v) 6 ≡ last → last + 1 ≡ count_in s v
unfolding count_in
count_is s v last e = ap (λ (x : ℕ). x + 1) (sym e)

pub count_below : (s : List ℕ) (v : ℕ) → count_in s v ≤ 64
unfolding count_in
count_below s v = omega (arith, bits_at_below s (variable_bit v) 6)

-- a run of variables: where it starts, one more that is right, and the end
pub no_counts_lem : (s : List ℕ) (n : ℕ) → Counts s (replicate n 0) 0
no_counts_lem s n = record { right = λ v h. absurd (omega arith); behind = λ v h. get_d_zeros n v }

pub record Seen (s : List ℕ) (count : ℕ) (counts : List ℕ) (i : ℕ) : Type 0 where
  pub within : i ≤ count
  pub size : length counts ≡ 64
  pub checks : in_order (variables_checks s 22 count) ≡ in_order (variables_checks s (variable_bit i) (count - i))
  pub holds : Counts s counts i

module _ (s : List ℕ) (count : ℕ) (counts : List ℕ) (i : ℕ) (I : Seen s count counts i) where
  variables_step : i < count → in_order (variables_checks s 22 count) ≡ in_order (variable_checks s (variable_bit i) ++ variables_checks s (variable_bit (i + 1)) (count - (i + 1)))
  unfolding variables_checks
  variables_step h =
      let e : count - i ≡ suc (count - (i + 1)) = omega arith in
      let f : variable_bit i + 20 ≡ variable_bit (i + 1) = omega arith in
      I.checks ∙ rw (e, f) refl

  pub variable_stops : (r : Result Unit Refusal) (f : Refusal) → IsErrAnd r (λ e. e ≡ f) → (b : ℕ) → i < count → refused (number_of f.reason) f.place ≡ answer (in_order (variable_checks s (variable_bit i))) b → check_of r ≡ in_order (variables_checks s 22 count)
  variable_stops r f h b k e = rw (variables_step k) (stopped_check_stage r f h _ _ b e)

  pub variable_here : i < count → in_order (variables_checks s 22 count) ≡ none → in_order (variable_checks s (variable_bit i)) ≡ none
  variable_here h e = (stage_parts (variable_checks s (variable_bit i)) (variables_checks s (variable_bit (i + 1)) (count - (i + 1))) (sym (variables_step h) ∙ e)).0

  pub variables_turn : (c : ℕ) → i < count → count ≤ 64 → in_order (variable_checks s (variable_bit i)) ≡ none → c ≡ count_in s i → Seen s count (set counts i c) (i + 1)
  variables_turn c h k a e =
      record {
        within = omega arith;
        size = length-set counts i c ∙ I.size;
        checks = variables_step h ∙ stage_passes (variable_checks s (variable_bit i)) (variables_checks s (variable_bit (i + 1)) (count - (i + 1))) a;
        holds = record { right = λ v b. at v b (ℕ_discrete v i); behind = λ v b. past v b };
      }
    where
      at : (v : ℕ) → v < i + 1 → Dec (v ≡ i) → get_or (set counts i c) v 0 ≡ count_in s v
      at v b (yes q) = rw (q, get_or-set_same counts i c 0 (omega (arith, I.size))) e
      at v b (no n) = rw (get_or-set_other counts i v c 0 n) (I.holds.right v (omega arith))

      past : (v : ℕ) → i + 1 ≤ v → get_or (set counts i c) v 0 ≡ 0
      past v b = rw (get_or-set_other counts i v c 0 (λ q. omega arith)) (I.holds.behind v (omega arith))

  pub variables_done : count ≤ i → (none ≡ in_order (variables_checks s 22 count)) × Counts s counts count
  unfolding variables_checks in_order
  variables_done h =
      let e : count - i ≡ 0 = omega arith in
      let f : i ≡ count = omega (arith, I.within) in
      (rw (I.checks, e) refl, rw f at I.holds)

-- the record from its variables on
module _ (s : List ℕ) (n a : ℕ) (en : n ≡ variables_in s) (ea : a ≡ actions_in s) where
  pub actions_refused : (r : Result Unit Refusal) (f : Refusal) → IsErrAnd r (λ e. e ≡ f) → (b : ℕ) → refused (number_of f.reason) f.place ≡ answer (in_order (actions_checks s (variable_bit n) a)) b → check_of r ≡ in_order (from_actions s)
  unfolding from_actions
  actions_refused r f h b e = rw (← en, ← ea) (stopped_check_stage r f h _ _ b e)

  pub actions_passed : (x : Check) → in_order (actions_checks s (variable_bit n) a) ≡ none → x ≡ in_order (from_end s) → x ≡ in_order (from_actions s)
  unfolding from_actions
  actions_passed x e h = rw (← en, ← ea) (h ∙ sym (stage_passes _ _ e))

  pub actions_end_lem : (end : ℕ) → n ≤ 64 → a ≤ 1024 → actions_end s (variable_bit n) a ≡ end → (end ≤ 500000) × (end ≡ record_end s)
  unfolding record_end
  actions_end_lem end hn ha e = (omega (arith, e, actions_end_le s (variable_bit n) a), rw (← en, ← ea) (sym e))

module _ (s : List ℕ) (n : ℕ) (en : n ≡ variables_in s) where
  pub variables_refused : (r : Result Unit Refusal) (f : Refusal) → IsErrAnd r (λ e. e ≡ f) → refuse (number_of f.reason) f.place ≡ in_order (variables_checks s 22 n) → check_of r ≡ in_order (from_variables s)
  unfolding from_variables
  variables_refused r f h e = sent_check r f h _ (rw (← en) (sym (stage_stops _ _ _ _ (sym e))))

  pub variables_passed : (x : Check) → in_order (variables_checks s 22 n) ≡ none → x ≡ in_order (from_actions s) → x ≡ in_order (from_variables s)
  unfolding from_variables
  variables_passed x e h = rw (← en) (h ∙ sym (stage_passes _ _ e))

-- the header: V and A against their ranges, the edition
pub count_above : (a b n p : ℕ) → b ≡ a → 1024 < a → check (leb b 1024) n p ≡ refuse n p
unfolding check
count_above a b n p e h = rw (e, lt-leb a 1024 h) refl

count_right : (a b n p : ℕ) → b ≡ a → a ≤ 1024 → check (leb b 1024) n p ≡ none
unfolding check
count_right a b n p e h = rw (e, le-leb a 1024 h) refl

range_low : (a b n p : ℕ) → b ≡ a → a < 1 → check (leb 1 b && leb b 64) n p ≡ refuse n p
unfolding check
range_low a b n p e h = rw (e, lt-leb 1 a h) refl

range_high : (a b n p : ℕ) → b ≡ a → 1 ≤ a → 64 < a → check (leb 1 b && leb b 64) n p ≡ refuse n p
unfolding check
range_high a b n p e l h = rw (e, le-leb 1 a l, lt-leb a 64 h) refl

pub range_wrong : (a b n p : ℕ) → b ≡ a → (a < 1) ⊎ ((1 ≤ a) × (64 < a)) → check (leb 1 b && leb b 64) n p ≡ refuse n p
range_wrong a b n p e h = elim h [
  | inl k ↦ range_low a b n p e k
  | inr k ↦ range_high a b n p e k.0 k.1
]

range_right : (a b n p : ℕ) → b ≡ a → 1 ≤ a → a ≤ 64 → check (leb 1 b && leb b 64) n p ≡ none
unfolding check
range_right a b n p e l h = rw (e, le-leb 1 a l, le-leb a 64 h) refl

pub edition_wrong : (a b n p : ℕ) → b ≡ a → (a ≡ 1 → ⊥) → check (eqb b 1) n p ≡ refuse n p
unfolding check
edition_wrong a b n p e h = rw (e, ne_eqb a 1 h) refl

edition_right : (a b n p : ℕ) → b ≡ a → a ≡ 1 → check (eqb b 1) n p ≡ none
unfolding check
edition_right a b n p e h = rw (e, eq-eqb a 1 h) refl

-- the whole record: its edition, and the rest
pub record_check_is : (s : List ℕ) → record_check s ≡ in_order (field_check s 0 4 ∷ check (eqb (bits_at s 0 4) 1) 2 0 ∷ from_variable_count s)
unfolding record_check record_checks header_checks from_variable_count from_action_count from_variables from_actions from_end
record_check_is s = refl

-- what passed of the header leaves the rest to say
pub past_edition : (s : List ℕ) (e : ℕ) (x : Check) → done e ≡ answer (field_check s 0 4) (bits_at s 0 4) → e ≡ 1 → x ≡ in_order (from_variable_count s) → x ≡ record_check s
past_edition s e x h k r =
    let p = there _ _ _ h in
    rw record_check_is (over _ _ _ p.0 (over _ _ _ (edition_right _ _ _ _ p.1 k) r))

pub past_count : (s : List ℕ) (n : ℕ) (x : Check) → done n ≡ answer (field_check s 4 7) (bits_at s 4 7) → 1 ≤ n → n ≤ 64 → x ≡ in_order (from_action_count s) → x ≡ in_order (from_variable_count s)
unfolding from_variable_count variables_in
past_count s n x h l k r =
    let p = there _ _ _ h in
    over _ _ _ p.0 (over _ _ _ (range_right _ _ _ _ p.1 l k) r)

pub past_actions : (s : List ℕ) (a : ℕ) (x : Check) → done a ≡ answer (field_check s 11 11) (bits_at s 11 11) → a ≤ 1024 → x ≡ in_order (from_variables s) → x ≡ in_order (from_action_count s)
unfolding from_action_count actions_in
past_actions s a x h k r =
    let p = there _ _ _ h in
    over _ _ _ p.0 (over _ _ _ (count_right _ _ _ _ p.1 k) r)

-- a header whose 22 bits are sound passes, and the other way round
module _ (s : List ℕ) (b : ℕ) (e : b ≡ bits_at s 0 22) where
  pub split_22 : (b / 262144 ≡ bits_at s 0 4) × (b / 2048 % 128 ≡ variables_in s) × (b % 2048 ≡ actions_in s)
  unfolding variables_in actions_in
  split_22 =
      let f1 = bits_at_add s 0 11 11 in
      let f2 = bits_at_add s 0 4 7 in
      let g1 = bits_at_below s 11 11 in
      let g2 = bits_at_below s 4 7 in
      (omega arith, omega arith, omega arith)

  pub header_sound : 22 ≤ 8 * length s → SoundHeader b → in_order (header_checks s) ≡ none
  unfolding header_checks in_order and_then
  header_sound l S =
      let f = split_22 in
      rw (
        field_there s 0 4 (omega arith),
        edition_right (b / 262144) (bits_at s 0 4) 2 0 (sym f.0) S.edition,
        field_there s 4 7 (omega arith),
        range_right (b / 2048 % 128) (variables_in s) 3 4 (sym f.1) S.variables_min S.variables_max,
        field_there s 11 11 (omega arith),
        count_right (b % 2048) (actions_in s) 3 11 (sym f.2) S.actions_max,
      )
      refl

  pub header_exact : in_order (header_checks s) ≡ none → SoundHeader b
  unfolding header_checks
  header_exact h =
      let f = split_22 in
      let P = in_order_passed (header_checks s) h in
      let v = check_none (leb 1 (variables_in s) && leb (variables_in s) 64) 3 4 P.1.1.1.0 in
      record {
        edition = rw f.0 (eqb-true (bits_at s 0 4) 1 (check_true (eqb (bits_at s 0 4) 1) 2 0 P.1.0));
        variables_min = rw f.1 (leb→le 1 (variables_in s) (search and_l));
        variables_max = rw f.1 (leb→le (variables_in s) 64 (search and_r));
        actions_max = rw f.2 (leb-true (actions_in s) 1024 (check_true (leb (actions_in s) 1024) 3 11 P.1.1.1.1.1.0));
      }

pub header_fits : (s : List ℕ) → in_order (header_checks s) ≡ none → 22 ≤ 8 * length s
unfolding header_checks
header_fits s h = omega (arith, field_fits s 11 11 (in_order_passed (header_checks s) h).1.1.1.1.0)

pub header_range : (s : List ℕ) → in_order (header_checks s) ≡ none → (1 ≤ variables_in s) × (variables_in s ≤ 64) × (actions_in s ≤ 1024)
header_range s h =
    let f = split_22 s (bits_at s 0 22) refl in
    let S = header_exact s (bits_at s 0 22) refl h in
    (omega (arith, S.variables_min), omega (arith, S.variables_max), omega (arith, S.actions_max))

-- the whole record, part by part
pub record Accepted (s : List ℕ) : Type 0 where
  pub header : in_order (header_checks s) ≡ none
  pub variables : in_order (variables_checks s 22 (variables_in s)) ≡ none
  pub actions : in_order (actions_checks s (variable_bit (variables_in s)) (actions_in s)) ≡ none
  pub end : in_order (from_end s) ≡ none

module _ (s : List ℕ) where
  pub accepted : Accepted s → record_check s ≡ none
  unfolding record_check record_checks from_end
  accepted A =
      let vs = variables_checks s 22 (variables_in s) in
      let acts = actions_checks s (variable_bit (variables_in s)) (actions_in s) in
      stage_passes (header_checks s) (vs ++ (acts ++ from_end s)) A.header ∙ stage_passes vs (acts ++ from_end s) A.variables ∙ stage_passes acts (from_end s) A.actions ∙ A.end

  pub accepted_parts : record_check s ≡ none → Accepted s
  unfolding record_check record_checks from_end
  accepted_parts e =
      let vs = variables_checks s 22 (variables_in s) in
      let acts = actions_checks s (variable_bit (variables_in s)) (actions_in s) in
      let P = stage_parts (header_checks s) (vs ++ (acts ++ from_end s)) e in
      let Q = stage_parts vs (acts ++ from_end s) P.1 in
      let R = stage_parts acts (from_end s) Q.1 in
      record { header = P.0; variables = Q.0; actions = R.0; end = R.1 }
