-- The round trip, about the definitions: a sheet that is written is read as it was, and a sheet that is accepted is written again
-- as it was. Bits packed into bytes are read back as the numbers that they stand for; the bits of an accepted sheet are those
-- of its fields, and zeros behind them.
use mathlib.Core.Bool.{Bool, true, false, not, ◌&&◌}
use mathlib.Core.List.{List, [], ◌∷◌, ◌++◌, append_assoc, append-nil}
use mathlib.Core.Option.{none}
use mathlib.Core.Path.{◌≡◌, refl, sym, ap, ◌∙◌}
use Prim.Native.Nat.{ℕ, zero, suc, ◌+◌, ◌-◌, ◌*◌, ◌/◌, ◌%◌, ◌^◌, ◌<◌, ◌≤◌}
use native.Mathlib.Nat.{pow-suc, zero-add, suc-add, add-zero, mul_assoc, mod-eq_of_lt}
use native.Mathlib.Numerals.{add-one}
use native.Mathlib.Omega.{arith}
use borrow.Author.Tests.{eq-eqb}
use lib.Dec.{eqb}
use lib.ListN.{length, get_or, drop, length-append, drop_of_length-le}
use lib.Pow.{high, pow-add}
use lib.Seq.{drop-drop, get_or-drop, drop-cons}
use Rattle.planning.specs.Basics.{one_if, bit_at, bits_at, done}
use Rattle.planning.specs.Calls.{not_below, lent, lent_bytes, read_call, read_list, read_marks, write_call, write_bytes}
use Rattle.planning.specs.Record.{ends_at}
use Rattle.planning.specs.Sheet.{Sheet, bits_of, mark_width, edition_of, mark_of, marks_of, step_bits, sheet_bits, number_in, packed, sheet_end, sheet_size, sheet_bytes}
use Rattle.planning.specs.Sheet.{steps_at, marks_at, edition_in, steps_in, sheet_of, sheet_check}
use Rattle.laws.proofs.Fields.{bit_at_below, bits_at_below}
use Rattle.bits.proofs.Pack.{length_bits_of, length_packed, packed_none, packed_byte, bits_of_add, drop_bits_of, number_in_bits_of, packed_same, Same, same_prefix, same_zeros}
use Rattle.bits.proofs.Window.{bits_at_whole}
use Rattle.sheet.proofs.Checks.{accepted, front_passed, end_passes, reads, writes}
use Rattle.sheet.proofs.Rows.{length_steps_at}
use Rattle.sheet.proofs.Entries.{none_over}
use Rattle.sheet.proofs.Widths.{mark_width_le, mark_width_suc}
use Rattle.sheet.specs.Again.{ReadsAs, WritesAs}
use Rattle.sheet.specs.Answers.{heading, heading_of}

-- Bits: a list of 0 and 1.
Bits : List ℕ → Type 0
Bits bs = (k : ℕ) → get_or bs k 0 < 2

number_in_add : (n m : ℕ) (bs : List ℕ) → number_in (n + m) bs ≡ number_in n bs * 2 ^ m + number_in m (drop n bs)
unfolding number_in
number_in_add zero m bs = rw zero-add (omega arith)
number_in_add (suc n) m bs =
    let e : 1 + n ≡ suc n = omega arith in
    rw (suc-add, number_in_add n m (drop 1 bs), drop-drop n 1 bs, e, pow-add 2 n m, ← mul_assoc) (omega arith)

-- one bit more at the end
number_in_suc : (n : ℕ) (bs : List ℕ) → number_in (suc n) bs ≡ number_in n bs * 2 + get_or bs n 0
unfolding number_in
number_in_suc n bs =
    let e : n + 0 ≡ n = omega arith in
    ap (λ (k : ℕ). number_in k bs) (sym (add-one n))
    ∙ number_in_add n 1 bs
    ∙ rw (get_or-drop n bs 0 0, e) (omega arith)

number_in_lt : (n : ℕ) (bs : List ℕ) → Bits bs → number_in n bs < 2 ^ n
unfolding number_in Bits
number_in_lt zero bs h = omega arith
number_in_lt (suc n) bs h = rw (number_in_suc n bs, pow-suc) (omega (arith, number_in_lt n bs h, h n))

bits_drop : (n : ℕ) (bs : List ℕ) → Bits bs → Bits (drop n bs)
unfolding Bits
bits_drop n bs h k = rw (get_or-drop n bs k 0) (h (n + k))

-- a bit of a number
digit : (r m : ℕ) (bs : List ℕ) → Bits bs → number_in (suc r + m) bs / 2 ^ m % 2 ≡ get_or bs r 0
unfolding Bits
digit r m bs h =
    rw (number_in_add (suc r) m bs, high (number_in (suc r) bs) m (number_in_lt m (drop (suc r) bs) (bits_drop (suc r) bs h)), number_in_suc r bs)
    (omega (arith, h r))

get_d_packed : (n j : ℕ) (bs : List ℕ) → j < n → get_or (packed n bs) j 0 ≡ number_in 8 (drop (8 * j) bs)
unfolding packed
get_d_packed zero j bs h = absurd (omega arith)
get_d_packed (suc n) zero bs h = refl
get_d_packed (suc n) (suc j) bs h =
    let e : 8 + 8 * j ≡ 8 * suc j = omega arith in
    get_d_packed n j (drop 8 bs) (omega arith) ∙ rw (drop-drop (8 * j) 8 bs, e) refl

bit_at_packed : (n p : ℕ) (bs : List ℕ) → Bits bs → p < 8 * n → bit_at (packed n bs) p ≡ get_or bs p 0
unfolding bit_at
bit_at_packed n p bs h l =
    let e : 8 ≡ suc (p % 8) + (7 - p % 8) = omega arith in
    let f : 8 * (p / 8) + p % 8 ≡ p = omega arith in
    rw (get_d_packed n (p / 8) bs (omega arith))
    (ap (λ (k : ℕ). number_in k (drop (8 * (p / 8)) bs) / 2 ^ (7 - p % 8) % 2) e
    ∙ digit (p % 8) (7 - p % 8) (drop (8 * (p / 8)) bs) (bits_drop (8 * (p / 8)) bs h)
    ∙ rw (get_or-drop (8 * (p / 8)) bs (p % 8) 0, f) refl)

-- a field of packed bits is the number that its bits stand for
bits_at_packed : (n p w : ℕ) (bs : List ℕ) → Bits bs → p + w ≤ 8 * n → bits_at (packed n bs) p w ≡ number_in w (drop p bs)
unfolding bits_at number_in
bits_at_packed n p zero bs h l = refl
bits_at_packed n p (suc w) bs h l =
    rw (bits_at_packed n p w bs h (omega arith), bit_at_packed n (p + w) bs h (omega arith))
    (sym (number_in_suc w (drop p bs) ∙ rw (get_or-drop p bs w 0) refl))

bits_bits_of : (w v : ℕ) (r : List ℕ) → Bits r → Bits (bits_of w v ++ r)
unfolding Bits bits_of
bits_bits_of zero v r h k = h k
bits_bits_of (suc w) v r h zero = omega arith
bits_bits_of (suc w) v r h (suc k) = bits_bits_of w v r h k

bits_nil : Bits []
unfolding Bits
bits_nil k = omega arith

bits_step_bits : (e : ℕ) (l ms : List ℕ) → Bits (step_bits e l ms)
unfolding step_bits
bits_step_bits e [] ms = bits_nil
bits_step_bits e (i ∷ l) ms = bits_bits_of (mark_width e) (mark_of e (get_or ms 0 0)) _ (bits_bits_of 10 i _ (bits_step_bits e l (drop 1 ms)))

-- a field, and what stands behind it
module _ (bs : List ℕ) (p w v : ℕ) (r : List ℕ) (e : drop p bs ≡ bits_of w v ++ r) where
  field_number : v < 2 ^ w → number_in w (drop p bs) ≡ v
  field_number h = rw (e, number_in_bits_of w v r) (mod-eq_of_lt h)

  field_behind : drop (p + w) bs ≡ r
  field_behind = sym (drop-drop w p bs) ∙ rw (e, drop_bits_of w v r) refl

length_step_bits : (e : ℕ) (l ms : List ℕ) → length (step_bits e l ms) ≡ (mark_width e + 10) * length l
unfolding step_bits
length_step_bits e [] ms = omega arith
length_step_bits e (i ∷ l) ms = rw (length-append, length-append, length_bits_of, length_bits_of, length_step_bits e l (drop 1 ms)) (omega arith)

number_in_nil : (w : ℕ) → number_in w [] ≡ 0
unfolding number_in
number_in_nil zero = refl
number_in_nil (suc w) = rw (number_in_nil w) (omega arith)

-- a mark fits its bits
mark_of_fits : (e m : ℕ) → mark_of e m < 2 ^ mark_width e
unfolding mark_of mark_width one_if
mark_of_fits e m = go (eqb e 1) (eqb m 0)
  where
    go : (b c : Bool) → one_if (not b && not c) < 2 ^ one_if (not b)
    go true c = omega arith
    go false true = omega arith
    go false false = omega arith

-- marks and steps that are packed are read back
steps_back : (n p e : ℕ) (bs l ms : List ℕ) → Bits bs → drop p bs ≡ step_bits e l ms → p + (mark_width e + 10) * length l ≤ 8 * n → ((k : ℕ) → get_or l k 0 < 1024)
    → (steps_at (packed n bs) (mark_width e) p (length l) ≡ l) × (marks_at (packed n bs) (mark_width e) p (length l) ≡ marks_of e l ms)
unfolding steps_at marks_at step_bits marks_of
steps_back n p e bs [] ms h q f small = (refl, refl)
steps_back n p e bs (i ∷ l) ms h q f small =
    let w = mark_width e in
    let m = mark_of e (get_or ms 0 0) in
    let r = bits_of 10 i ++ step_bits e l (drop 1 ms) in
    let d : drop (p + w) bs ≡ r = field_behind bs p w m r q in
    let mark : bits_at (packed n bs) p w ≡ m = bits_at_packed n p w bs h (omega arith) ∙ field_number bs p w m r q (mark_of_fits e (get_or ms 0 0)) in
    let step : bits_at (packed n bs) (p + w) 10 ≡ i = bits_at_packed n (p + w) 10 bs h (omega arith) ∙ field_number bs (p + w) 10 i (step_bits e l (drop 1 ms)) d (small 0) in
    let back = steps_back n (p + w + 10) e bs l (drop 1 ms) h (field_behind bs (p + w) 10 i (step_bits e l (drop 1 ms)) d) (omega arith) (λ k. small (suc k)) in
    (rw (step, back.0) refl, rw (mark, back.1) refl)

length_marks_of : (e : ℕ) (l ms : List ℕ) → length (marks_of e l ms) ≡ length l
unfolding marks_of
length_marks_of e [] ms = refl
length_marks_of e (i ∷ l) ms = ap suc (length_marks_of e l (drop 1 ms))

-- what can be written
pub record Writable (x : Sheet) : Type 0 where
  pub short : length x.steps ≤ 32768
  pub small : (k : ℕ) → get_or x.steps k 0 < 1024
  pub cost : x.cost < 4294967296

eqb_one_if : (b : Bool) → eqb (one_if b) 1 ≡ b
unfolding one_if
eqb_one_if true = refl
eqb_one_if false = refl

one_if_lt : (b : Bool) → one_if b < 2
unfolding one_if
one_if_lt true = omega arith
one_if_lt false = omega arith

module _ (x : Sheet) (g : Writable x) where
  bits : Bits (sheet_bits x)
  unfolding sheet_bits
  bits =
      bits_bits_of 4 (edition_of x.edition) _
      (bits_bits_of 1 (one_if x.real) _ (bits_bits_of 16 (length x.steps) _ (bits_bits_of 32 x.cost _ (bits_step_bits x.edition x.steps x.marks))))

  real_on : List ℕ
  real_on = bits_of 1 (one_if x.real) ++ (bits_of 16 (length x.steps) ++ (bits_of 32 x.cost ++ step_bits x.edition x.steps x.marks))

  behind_0 : drop 0 (sheet_bits x) ≡ bits_of 4 (edition_of x.edition) ++ real_on
  unfolding sheet_bits real_on
  behind_0 = refl

  behind_4 : drop 4 (sheet_bits x) ≡ bits_of 1 (one_if x.real) ++ (bits_of 16 (length x.steps) ++ (bits_of 32 x.cost ++ step_bits x.edition x.steps x.marks))
  unfolding real_on
  behind_4 = field_behind (sheet_bits x) 0 4 (edition_of x.edition) _ behind_0

  behind_5 : drop 5 (sheet_bits x) ≡ bits_of 16 (length x.steps) ++ (bits_of 32 x.cost ++ step_bits x.edition x.steps x.marks)
  behind_5 = field_behind (sheet_bits x) 4 1 (one_if x.real) _ behind_4

  behind_21 : drop 21 (sheet_bits x) ≡ bits_of 32 x.cost ++ step_bits x.edition x.steps x.marks
  behind_21 = field_behind (sheet_bits x) 5 16 (length x.steps) _ behind_5

  behind_53 : drop 53 (sheet_bits x) ≡ step_bits x.edition x.steps x.marks
  behind_53 = field_behind (sheet_bits x) 21 32 x.cost _ behind_21

  -- the fields of the bytes
  field_at : (p w : ℕ) → p + w ≤ 53 → bits_at (sheet_bytes x) p w ≡ number_in w (drop p (sheet_bits x))
  unfolding sheet_bytes sheet_size sheet_end
  field_at p w h = bits_at_packed (sheet_size x.edition (length x.steps)) p w (sheet_bits x) bits (omega arith)

  edition_back : edition_in (sheet_bytes x) ≡ edition_of x.edition
  unfolding edition_in edition_of
  edition_back = field_at 0 4 (omega arith) ∙ field_number (sheet_bits x) 0 4 (edition_of x.edition) _ behind_0 (omega (arith, mark_width_le x.edition))

  width_back : mark_width (edition_in (sheet_bytes x)) ≡ mark_width x.edition
  unfolding edition_of
  width_back = ap mark_width edition_back ∙ mark_width_suc (mark_width x.edition) (mark_width_le x.edition)

  real_back : eqb (bits_at (sheet_bytes x) 4 1) 1 ≡ x.real
  real_back = rw (field_at 4 1 (omega arith), field_number (sheet_bits x) 4 1 (one_if x.real) _ behind_4 (one_if_lt x.real)) (eqb_one_if x.real)

  count_back : steps_in (sheet_bytes x) ≡ length x.steps
  unfolding steps_in
  count_back = field_at 5 16 (omega arith) ∙ field_number (sheet_bits x) 5 16 (length x.steps) _ behind_5 (omega (arith, g.short))

  cost_back : bits_at (sheet_bytes x) 21 32 ≡ x.cost
  cost_back = field_at 21 32 (omega arith) ∙ field_number (sheet_bits x) 21 32 x.cost _ behind_21 g.cost

  list_back : (steps_at (sheet_bytes x) (mark_width x.edition) 53 (length x.steps) ≡ x.steps)
      × (marks_at (sheet_bytes x) (mark_width x.edition) 53 (length x.steps) ≡ marks_of x.edition x.steps x.marks)
  unfolding sheet_bytes sheet_size sheet_end
  list_back = steps_back (sheet_size x.edition (length x.steps)) 53 x.edition (sheet_bits x) x.steps x.marks bits behind_53 (omega arith) g.small

  -- a sheet that is written is read as it was, with its edition as 1 or 2 and its marks as 0 and 1
  pub sheet_back : sheet_of (sheet_bytes x) ≡ record {
    edition = edition_of x.edition;
    steps = x.steps;
    marks = marks_of x.edition x.steps x.marks;
    cost = x.cost;
    real = x.real;
  }
  unfolding sheet_of
  sheet_back = rw (width_back, edition_back, count_back, list_back.0, list_back.1, cost_back, real_back) refl

  end : ℕ
  end = 53 + (mark_width x.edition + 10) * length x.steps

  end_back : sheet_end (edition_in (sheet_bytes x)) (steps_in (sheet_bytes x)) ≡ end
  unfolding sheet_end end
  end_back = rw (width_back, count_back) refl

  bytes_count : length (sheet_bytes x) ≡ (end + 7) / 8
  unfolding sheet_bytes sheet_size sheet_end end
  bytes_count = length_packed _ (sheet_bits x)

  padding_back : (w : ℕ) → end + w ≤ 8 * length (sheet_bytes x) → bits_at (sheet_bytes x) end w ≡ 0
  unfolding sheet_bytes sheet_size sheet_end end
  padding_back w h =
      let n = (mark_width x.edition + 10) * length x.steps in
      let l = step_bits x.edition x.steps x.marks in
      let e : drop end (sheet_bits x) ≡ [] = sym (drop-drop n 53 (sheet_bits x)) ∙ rw behind_53 (drop_of_length-le l {i = n} (rw length_step_bits (omega arith))) in
      bits_at_packed (sheet_size x.edition (length x.steps)) end w (sheet_bits x) bits (omega (arith, bytes_count)) ∙ rw (e, number_in_nil) refl

  ends_back : ends_at (sheet_bytes x) (sheet_end (edition_in (sheet_bytes x)) (steps_in (sheet_bytes x))) ≡ true
  unfolding ends_at
  ends_back =
      rw (end_back, eq-eqb (length (sheet_bytes x)) ((end + 7) / 8) bytes_count, padding_back (8 * length (sheet_bytes x) - end) (omega (arith, bytes_count))) refl

  pub check_back : sheet_check (sheet_bytes x) ≡ none
  unfolding end edition_of
  check_back =
      front_passed (sheet_bytes x) (omega (arith, bytes_count)) (omega (arith, edition_back)) (omega (arith, edition_back, mark_width_le x.edition))
      (omega (arith, bytes_count)) (omega (arith, count_back, g.short)) (omega (arith, bytes_count))
      ∙ end_passes (sheet_bytes x) (omega (arith, bytes_count, end_back)) ends_back

  heading_back : heading_of (sheet_bytes x) ≡ heading (length x.steps) x.cost (edition_of x.edition) x.real
  unfolding heading_of
  heading_back = rw (sheet_back, count_back, edition_back) refl

  pub reads_back : ReadsAs (sheet_bytes x) x
  unfolding read_list read_marks lent lent_bytes
  reads_back =
      let a : (n m : ℕ) → length x.steps ≤ n → length x.steps ≤ m → read_call (sheet_bytes x) n m ≡ done (heading (length x.steps) x.cost (edition_of x.edition) x.real) =
      λ n m h l. reads (sheet_bytes x) n m check_back (omega (arith, count_back, g.short)) (omega (arith, count_back)) ∙ ap done heading_back in
      record {
        answer = a;
        list = λ n m h l. rw (a n m h l, sheet_back) refl;
        marks = λ n m h l. rw (a n m h l, sheet_back, length_marks_of) refl;
      }

-- The w bits of a byte list from position p on.
bits_from : List ℕ → ℕ → ℕ → List ℕ
bits_from s p zero = []
bits_from s p (suc w) = bit_at s p ∷ bits_from s (p + 1) w

bits_from_add : (s : List ℕ) (p n m : ℕ) → bits_from s p (n + m) ≡ bits_from s p n ++ bits_from s (p + n) m
unfolding bits_from
bits_from_add s p zero m = rw (zero-add, add-zero) refl
bits_from_add s p (suc n) m =
    let e : p + 1 + n ≡ p + suc n = omega arith in
    rw (suc-add, bits_from_add s (p + 1) n m, e) refl

bits_from_none : (s : List ℕ) (p : ℕ) → bits_from s p 0 ≡ []
unfolding bits_from
bits_from_none s p = refl

one_bit : (s : List ℕ) (p : ℕ) → bits_of 1 (bit_at s p) ≡ bits_from s p 1
unfolding bits_of bits_from bit_at
one_bit s p = ap (λ (b : ℕ). b ∷ []) (omega arith)

bits_at_suc : (s : List ℕ) (p w : ℕ) → bits_at s p (suc w) ≡ bits_at s p w * 2 + bit_at s (p + w)
unfolding bits_at
bits_at_suc s p w = refl

-- the bits of the number in a field are the field's
bits_of_bits_at : (s : List ℕ) (p w : ℕ) → bits_of w (bits_at s p w) ≡ bits_from s p w
unfolding bits_from bits_of
bits_of_bits_at s p zero = refl
bits_of_bits_at s p (suc w) =
    ap (bits_of (suc w)) (bits_at_suc s p w)
    ∙ ap (λ (k : ℕ). bits_of k (bits_at s p w * 2 + bit_at s (p + w))) (sym (add-one w))
    ∙ bits_of_add w 1 (bits_at s p w) (bit_at s (p + w)) (bit_at_below s (p + w))
    ∙ rw (bits_of_bits_at s p w, one_bit s (p + w)) (sym (bits_from_add s p w 1))
    ∙ ap (bits_from s p) (add-one w)

-- of the editions 1 and 2: the edition and the marks that are read are written as they are
edition_again : (e : ℕ) → 1 ≤ e → e ≤ 2 → edition_of e ≡ e
unfolding edition_of mark_width one_if
edition_again zero h l = absurd (omega arith)
edition_again (suc zero) h l = refl
edition_again (suc (suc zero)) h l = refl
edition_again (suc (suc (suc e))) h l = absurd (omega arith)

mark_again : (s : List ℕ) (e p : ℕ) → 1 ≤ e → e ≤ 2 → mark_of e (bits_at s p (mark_width e)) ≡ bits_at s p (mark_width e)
unfolding mark_of mark_width bits_at one_if
mark_again s zero p h l = absurd (omega arith)
mark_again s (suc zero) p h l = refl
mark_again s (suc (suc zero)) p h l = go (bits_at s p 1) (bits_at_below s p 1)
  where
    go : (b : ℕ) → b < 2 → one_if (not (eqb b 0)) ≡ b
    go zero h = refl
    go (suc zero) h = refl
    go (suc (suc b)) h = absurd (omega arith)
mark_again s (suc (suc (suc e))) p h l = absurd (omega arith)

step_bits_again : (s : List ℕ) (e p n : ℕ) → 1 ≤ e → e ≤ 2
    → step_bits e (steps_at s (mark_width e) p n) (marks_at s (mark_width e) p n) ≡ bits_from s p ((mark_width e + 10) * n)
unfolding step_bits steps_at marks_at
step_bits_again s e p zero h l = let z : (mark_width e + 10) * 0 ≡ 0 = omega arith in sym (rw z (bits_from_none s p))
step_bits_again s e p (suc n) h l =
    let w = mark_width e in
    let k : (w + 10) * suc n ≡ w + (10 + (w + 10) * n) = omega arith in
    rw (
      mark_again s e p h l,
      k,
      bits_from_add s p w (10 + (w + 10) * n),
      bits_from_add s (p + w) 10 ((w + 10) * n),
      ← bits_of_bits_at s p w,
      ← bits_of_bits_at s (p + w) 10,
      ← step_bits_again s e (p + w + 10) n h l,
    ) refl

whole_byte : (n v : ℕ) (r : List ℕ) → v < 256 → packed (suc n) (bits_of 8 v ++ r) ≡ v ∷ packed n r
unfolding bits_of
whole_byte n v r h = packed_byte n 0 v r ∙ ap (λ (b : ℕ). b ∷ packed n r) (omega arith)

-- bytes are what is packed of their bits
packed_bits_from : (s : List ℕ) (q n : ℕ) → ((k : ℕ) → get_or s k 0 < 256) → q + n ≡ length s → packed n (bits_from s (8 * q) (8 * n)) ≡ drop q s
packed_bits_from s q zero h e = packed_none _ ∙ sym (drop_of_length-le s {i = q} (omega arith))
packed_bits_from s q (suc n) h e =
    let k : 8 * suc n ≡ 8 + 8 * n = omega arith in
    let m : 8 * q + 8 ≡ 8 * suc q = omega arith in
    let c : 8 * q ≡ q * 8 = omega arith in
    let b : bits_at s (8 * q) 8 ≡ get_or s q 0 = rw c (bits_at_whole s q (h q)) in
    rw (k, bits_from_add s (8 * q) 8 (8 * n), m, ← bits_of_bits_at s (8 * q) 8, b, drop-cons s q 0 (omega arith), ← packed_bits_from s (suc q) n h (omega arith))
    (whole_byte n (get_or s q 0) (bits_from s (8 * suc q) (8 * n)) (h q))

bit_back : (b : ℕ) → b < 2 → one_if (eqb b 1) ≡ b
unfolding one_if
bit_back zero h = refl
bit_back (suc zero) h = refl
bit_back (suc (suc b)) h = absurd (omega arith)

steps_small : (s : List ℕ) (w p n i : ℕ) → get_or (steps_at s w p n) i 0 < 1024
unfolding steps_at
steps_small s w p zero i = omega arith
steps_small s w p (suc n) zero = bits_at_below s (p + w) 10
steps_small s w p (suc n) (suc i) = steps_small s w (p + w + 10) n i

zeros_behind : (w : ℕ) (xs : List ℕ) → Same (xs ++ (bits_of w 0 ++ [])) (xs ++ [])
zeros_behind w xs = same_prefix xs (bits_of w 0 ++ []) [] (same_zeros w [] (λ k. refl))

module _ (s : List ℕ) (ok : sheet_check s ≡ none) where
  edition_bits : bits_of 4 (edition_of (edition_in s)) ≡ bits_from s 0 4
  unfolding edition_in
  edition_bits = ap (bits_of 4) (edition_again (edition_in s) (accepted s ok).least (accepted s ok).most) ∙ bits_of_bits_at s 0 4

  count_bits : bits_of 16 (steps_in s) ≡ bits_from s 5 16
  unfolding steps_in
  count_bits = bits_of_bits_at s 5 16

  real_bit : bits_of 1 (one_if (eqb (bits_at s 4 1) 1)) ≡ bits_from s 4 1
  real_bit = ap (bits_of 1) (bit_back (bits_at s 4 1) (bits_at_below s 4 1)) ∙ bits_of_bits_at s 4 1

  -- the bits of the sheet that was read are those of the bytes
  bits_again : sheet_bits (sheet_of s) ≡ bits_from s 0 (sheet_end (edition_in s) (steps_in s))
  unfolding sheet_bits sheet_of sheet_end
  bits_again =
      let n = (mark_width (edition_in s) + 10) * steps_in s in
      rw (
        edition_bits,
        length_steps_at s (mark_width (edition_in s)) 53 (steps_in s),
        real_bit,
        count_bits,
        bits_of_bits_at s 21 32,
        step_bits_again s (edition_in s) 53 (steps_in s) (accepted s ok).least (accepted s ok).most,
        bits_from_add s 0 53 n,
        bits_from_add s 0 21 32,
        bits_from_add s 0 5 16,
        bits_from_add s 0 4 1,
      ) (simp append_assoc)

  size_again : sheet_size (sheet_of s).edition (length (sheet_of s).steps) ≡ length s
  unfolding sheet_of sheet_size
  size_again = rw (length_steps_at s (mark_width (edition_in s)) 53 (steps_in s)) (sym (accepted s ok).ends)

  padded : (e w : ℕ) → e ≡ sheet_end (edition_in s) (steps_in s) → w ≡ 8 * length s - e → bits_from s 0 (8 * length s) ≡ bits_from s 0 e ++ (bits_of w 0 ++ [])
  padded e w q z =
      let k : 8 * length s ≡ e + w = omega (arith, (accepted s ok).ends) in
      let b : bits_at s e w ≡ 0 = rw (z, q) (accepted s ok).padding in
      rw (k, bits_from_add s 0 e w, zero-add e, ← bits_of_bits_at s e w, b, append-nil) refl

  -- an accepted sheet is written again as it was
  pub bytes_again : ((k : ℕ) → get_or s k 0 < 256) → sheet_bytes (sheet_of s) ≡ s
  unfolding sheet_bytes
  bytes_again small =
      let e : ℕ = sheet_end (edition_in s) (steps_in s) in
      let w : ℕ = 8 * length s - e in
      rw (size_again, bits_again)
      (ap (packed (length s)) (sym (append-nil (bits_from s 0 e)))
      ∙ sym (packed_same (length s) _ _ (zeros_behind w (bits_from s 0 e)))
      ∙ ap (packed (length s)) (sym (padded e w refl refl))
      ∙ packed_bits_from s 0 (length s) small (omega arith))

  short_again : length (sheet_of s).steps ≤ 32768
  unfolding sheet_of
  short_again = rw (length_steps_at s (mark_width (edition_in s)) 53 (steps_in s)) (accepted s ok).few

  below_again : not_below 1024 0 (sheet_of s).steps ≡ none
  unfolding sheet_of
  below_again = none_over 1024 0 _ (steps_small s (mark_width (edition_in s)) 53 (steps_in s))

  pub writes_again : ((k : ℕ) → get_or s k 0 < 256) → WritesAs (sheet_of s) s
  unfolding write_bytes lent_bytes
  writes_again small =
      let a : (n : ℕ) → length s ≤ n → write_call (sheet_of s) n ≡ done (length s) = λ n h. writes (sheet_of s) n short_again below_again (rw size_again h) ∙ ap done size_again in
      record { answer = a; bytes = λ n h. rw (a n h, bytes_again small) refl }
