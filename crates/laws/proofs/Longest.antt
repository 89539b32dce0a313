-- The listing program reads at most 49,316 bytes. The fields of a record end within 49,315, so checks 1 to 5 look at no byte behind
-- them, and check 6 refuses every longer input at the same place: what the planner answers to the first 49,316 bytes of an input, it
-- answers to the whole.
use Prim.Native.Nat.{ℕ, zero, suc, ◌+◌, ◌*◌, ◌/◌, ◌-◌, ◌≤◌, ◌<◌}
use mathlib.Core.Path.{◌≡◌, refl, sym, ap, ◌∙◌}
use mathlib.Core.Bool.{◌&&◌}
use mathlib.Core.List.{List, [], ◌∷◌, ◌++◌}
use mathlib.Core.Option.{none, some}
use lib.Dec.{eqb, eqb→eq, leb, leb→le, le→leb, not_T}
use lib.ListN.{length, take}
use lib.Seq.{get_or-take, length-take-le}
use native.Mathlib.Omega.{arith}
use Rattle.planning.specs.Basics.{Check, refuse, check, and_then, in_order, answer, bit_at, bits_at, holds_field}
use Rattle.planning.specs.Record.{variable_bit, variables_in, actions_in, preconditions_in, effects_in, effects_from, action_end, actions_end, field_check, header_checks}
use Rattle.planning.specs.Record.{variable_checks, variables_checks, count_in, fact_checks, facts_checks, action_checks, actions_checks, ends_at, record_end}
use Rattle.planning.specs.Record.{record_checks, record_check}
use Rattle.planning.specs.Calls.{plan_call}
use Rattle.laws.proofs.Tests.{and_l, and_r}
use Rattle.laws.proofs.Checks.{check_none, check_pass, check_fail, Passed, in_order_passed, in_order-++}
use Rattle.laws.proofs.Fields.{bits_at_below, action_end_le, actions_end_le}
use Rattle.laws.proofs.Sizes.{record_length}

-- bytes are left over
ends_long : (s : List ℕ) (p : ℕ) → 49316 ≤ length s → p ≤ 394518 → check (ends_at s p) 6 p ≡ refuse 6 p
unfolding ends_at
ends_long s p l h =
    check_fail (ends_at s p) 6 p
    (not_T (ends_at s p) (λ e. let z = eqb→eq (length s) ((p + 7) / 8) (and_l (eqb (length s) ((p + 7) / 8)) (eqb (bits_at s p (8 * length s - p)) 0) e) in omega arith))

-- what is checked behind the header
rest : List ℕ → List Check
rest s = variables_checks s 22 (variables_in s) ++ (actions_checks s (variable_bit (variables_in s)) (actions_in s) ++ (check (ends_at s (record_end s)) 6 (record_end s) ∷ []))

-- two inputs longer than a record that have the bits of the longest record in common
module _ (s t : List ℕ) (same : (p w : ℕ) → p + w ≤ 394518 → bits_at s p w ≡ bits_at t p w) (ls : 49316 ≤ length s) (lt : 49316 ≤ length t) where
  field_same : (p w : ℕ) → p + w ≤ 394518 → field_check s p w ≡ field_check t p w
  unfolding field_check holds_field
  field_same p w h =
      check_pass (leb (p + w) (8 * length s)) 1 p (le→leb (p + w) (8 * length s) (omega arith))
      ∙ sym (check_pass (leb (p + w) (8 * length t)) 1 p (le→leb (p + w) (8 * length t) (omega arith)))

  variables_in_same : variables_in s ≡ variables_in t
  unfolding variables_in
  variables_in_same = same 4 7 (omega arith)

  actions_in_same : actions_in s ≡ actions_in t
  unfolding actions_in
  actions_in_same = same 11 11 (omega arith)

  header_same : header_checks s ≡ header_checks t
  unfolding header_checks
  header_same = cc (field_same 0 4 (omega arith), same 0 4 (omega arith), field_same 4 7 (omega arith), variables_in_same, field_same 11 11 (omega arith), actions_in_same)

  variable_same : (p : ℕ) → p + 20 ≤ 394518 → variable_checks s p ≡ variable_checks t p
  unfolding variable_checks
  variable_same p h =
      cc (
        field_same p 6 (omega arith),
        field_same (p + 6) 1 (omega arith),
        field_same (p + 7) 6 (omega arith),
        field_same (p + 13) 1 (omega arith),
        field_same (p + 14) 6 (omega arith),
        same p 6 (omega arith),
        same (p + 7) 6 (omega arith),
        same (p + 13) 1 (omega arith),
        same (p + 14) 6 (omega arith),
      )

  variables_same : (p n : ℕ) → p + 20 * n ≤ 394518 → variables_checks s p n ≡ variables_checks t p n
  unfolding variables_checks
  variables_same p zero h = refl
  variables_same p (suc n) h = cc (variable_same p (omega arith), variables_same (p + 20) n (omega arith))

  count_same : (v : ℕ) → v < 64 → count_in s v ≡ count_in t v
  unfolding count_in
  count_same v h = ap (λ x. x + 1) (same (variable_bit v) 6 (omega arith))

  fact_same : (p low : ℕ) → p + 12 ≤ 394518 → fact_checks s p low ≡ fact_checks t p low
  unfolding fact_checks
  fact_same p low h =
      cc (field_same p 6 (omega arith), field_same (p + 6) 6 (omega arith), same p 6 (omega arith), same (p + 6) 6 (omega arith), variables_in_same, count_same (bits_at s p 6) (bits_at_below s p 6))

  facts_same : (p low n : ℕ) → p + 12 * n ≤ 394518 → facts_checks s p low n ≡ facts_checks t p low n
  unfolding facts_checks
  facts_same p low zero h = refl
  facts_same p low (suc n) h = cc (fact_same p low (omega arith), same p 6 (omega arith), facts_same (p + 12) (bits_at s p 6 + 1) n (omega arith))

  action_same : (p : ℕ) → p + 384 ≤ 394518 → (action_checks s p ≡ action_checks t p) × (action_end s p ≡ action_end t p)
  unfolding action_checks action_end effects_from preconditions_in effects_in
  action_same p h =
      let a = same (p + 16) 4 (omega arith) in
      let b = same (p + 20) 4 (omega arith) in
      let x = bits_at_below s (p + 16) 4 in
      let y = bits_at_below s (p + 20) 4 in
      let e = p + 24 + 12 * bits_at s (p + 16) 4 in (
        cc (
          field_same p 16 (omega arith),
          field_same (p + 16) 4 (omega arith),
          field_same (p + 20) 4 (omega arith),
          a,
          b,
          facts_same (p + 24) 0 (bits_at s (p + 16) 4) (omega arith),
          facts_same e 0 (bits_at s (p + 20) 4) (omega arith),
        ),
        cc,
      )

  actions_same : (p n : ℕ) → p + 384 * n ≤ 394518 → (actions_checks s p n ≡ actions_checks t p n) × (actions_end s p n ≡ actions_end t p n)
  unfolding actions_checks actions_end
  actions_same p zero h = (refl, refl)
  actions_same p (suc n) h =
      let a = action_same p (omega arith) in
      let l = action_end_le s p in
      let r = actions_same (action_end s p) n (omega arith) in (cc, cc)

  end_same : (p : ℕ) → p ≤ 394518 → check (ends_at s p) 6 p ≡ check (ends_at t p) 6 p
  end_same p h = ends_long s p ls h ∙ sym (ends_long t p lt h)

  rest_same : Passed (header_checks s) → rest s ≡ rest t
  unfolding header_checks record_end rest
  rest_same P =
      let v = leb→le (variables_in s) 64 (and_r (leb 1 (variables_in s)) (leb (variables_in s) 64) (check_none (leb 1 (variables_in s) && leb (variables_in s) 64) 3 4 P.1.1.1.0)) in
      let a = leb→le (actions_in s) 1024 (check_none (leb (actions_in s) 1024) 3 11 P.1.1.1.1.1.0) in
      let p = variable_bit (variables_in s) in
      let r = actions_same p (actions_in s) (omega arith) in
      let l = actions_end_le s p (actions_in s) in
      cc (variables_in_same, actions_in_same, variables_same 22 (variables_in s) (omega arith), end_same (actions_end s p (actions_in s)) (omega arith))

  record_check_same : record_check s ≡ record_check t
  unfolding record_check record_checks and_then rest
  record_check_same = in_order-++ (header_checks s) (rest s) ∙ go (in_order (header_checks s)) refl ∙ sym (in_order-++ (header_checks t) (rest t))
    where
      go : (c : Check) → in_order (header_checks s) ≡ c → and_then (in_order (header_checks s)) (in_order (rest s)) ≡ and_then (in_order (header_checks t)) (in_order (rest t))
      go none e = cc (header_same, rest_same (in_order_passed (header_checks s) e))
      go (some r) e = rw (← header_same, e) refl

-- the front of an input
module _ (s : List ℕ) (n : ℕ) (h : 49316 ≤ n) (l : n ≤ length s) where
  bit_at_front : (p : ℕ) → p < 8 * n → bit_at (take n s) p ≡ bit_at s p
  unfolding bit_at
  bit_at_front p b = rw (get_or-take n s (p / 8) 0 (omega arith)) refl

  bits_at_front : (p w : ℕ) → p + w ≤ 8 * n → bits_at (take n s) p w ≡ bits_at s p w
  unfolding bits_at
  bits_at_front p zero b = refl
  bits_at_front p (suc w) b = cc (bits_at_front p w (omega arith), bit_at_front (p + w) (omega arith))

  pub record_check_front : record_check (take n s) ≡ record_check s
  record_check_front = record_check_same (take n s) s (λ p w b. bits_at_front p w (omega arith)) (rw (length-take-le n s l) h) (omega arith)

  pub plan_call_front : (plan work marks : ℕ) → plan_call (take n s) plan work marks ≡ plan_call s plan work marks
  unfolding plan_call answer in_order and_then
  plan_call_front plan work marks = go (record_check s) refl
    where
      go : (c : Check) → record_check s ≡ c → plan_call (take n s) plan work marks ≡ plan_call s plan work marks
      go none e = absurd (omega (arith, record_length s e))
      go (some r) e = rw (record_check_front, e) refl
