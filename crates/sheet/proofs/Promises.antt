-- What the promises of `writer::write` and `reader::read` say of the lent bytes and the lent list, from the checks' outcome.
use mathlib.Core.List.{List, ◌++◌}
use mathlib.Core.Option.{none}
use mathlib.Core.Path.{◌≡◌, refl, sym, ◌∙◌}
use Prim.Native.Nat.{ℕ, ◌-◌, ◌<◌}
use native.Mathlib.Omega.{arith}
use lib.ListN.{length, get_or, take, replicate}
use lib.Seq.{take_at}
use Rattle.planning.specs.Basics.{refused, done}
use Rattle.planning.specs.Calls.{Read, lent, lent_bytes, write_call, write_bytes, read_call, read_list, read_marks}
use Rattle.planning.specs.Sheet.{Sheet, mark_width, sheet_bits, sheet_bytes, sheet_size, sheet_of, sheet_check, steps_at, marks_at, edition_in, steps_in}
use Rattle.bits.proofs.Pack.{length_packed}
use Rattle.sheet.proofs.Checks.{Fitting, fitting}
use Rattle.sheet.proofs.Rows.{length_steps_at, length_marks_at}
use Rattle.sheet.proofs.Entries.{all_below_lem}
use Rattle.sheet.proofs.RoundTrip.{reads_back, writes_again}
use Rattle.sheet.specs.Again.{ReadsAs, WritesAs}
use Rattle.sheet.specs.Answers.{handed_out, heading_of}

length_sheet_bytes : (x : Sheet) → length (sheet_bytes x) ≡ sheet_size x.edition (length x.steps)
unfolding sheet_bytes
length_sheet_bytes x = length_packed _ (sheet_bits x)

module _ (x : Sheet) (n : ℕ) (e : List ℕ) where
  pub write_refused : (m p : ℕ) → write_call x n ≡ refused m p → e ≡ replicate n 0 → (e ≡ write_bytes x n) × ((k : ℕ) → write_call x n ≡ done k → ReadsAs (take k e) x)
  unfolding write_bytes lent_bytes
  write_refused m p c q = (q ∙ sym (rw c refl), λ k d. let u : ◌≡◌ {A = ℕ} 0 1 = cc in absurd (omega arith))

  pub write_done : (k : ℕ) → write_call x n ≡ done k → x.cost < 4294967296 → e ≡ sheet_bytes x ++ replicate (n - k) 0
      → (e ≡ write_bytes x n) × ((j : ℕ) → write_call x n ≡ done j → ReadsAs (take j e) x)
  unfolding write_bytes lent_bytes
  write_done k c h q =
      let f : Fitting x n k = fitting x n k c in
      let z : length (sheet_bytes x) ≡ k = length_sheet_bytes x ∙ sym f.size in
      let back : ReadsAs (sheet_bytes x) x = reads_back x (record { short = f.short; small = all_below_lem 1024 0 x.steps (omega arith) f.below; cost = h }) in
      (q ∙ sym (rw (c, z) refl), λ j d. let i : j ≡ k = cc in rw (i, q, take_at (sheet_bytes x) (replicate (n - k) 0) k z) back)

-- what reading leaves in the list d and in the mark area e
pub record Left (s : List ℕ) (n m : ℕ) (d e : List ℕ) : Type 0 where
  pub list : d ≡ read_list s n m
  pub marks : e ≡ read_marks s n m
  pub again : (h : Read) → read_call s n m ≡ done h → WritesAs (handed_out h d e) s

module _ (s : List ℕ) (n m : ℕ) (d e : List ℕ) where
  pub read_refused : (k p : ℕ) → read_call s n m ≡ refused k p → d ≡ replicate n 65535 → e ≡ replicate m 0 → Left s n m d e
  unfolding read_list read_marks lent lent_bytes
  read_refused k p c q r = record { list = q ∙ sym (rw c refl); marks = r ∙ sym (rw c refl); again = λ h z. let u : ◌≡◌ {A = ℕ} 0 1 = cc in absurd (omega arith) }

  pub read_done : read_call s n m ≡ done (heading_of s) → sheet_check s ≡ none → ((k : ℕ) → get_or s k 0 < 256)
      → d ≡ steps_at s (mark_width (edition_in s)) 53 (steps_in s) ++ replicate (n - steps_in s) 65535
      → e ≡ marks_at s (mark_width (edition_in s)) 53 (steps_in s) ++ replicate (m - steps_in s) 0 → Left s n m d e
  unfolding read_list read_marks lent lent_bytes sheet_of heading_of
  read_done c ok small q r =
      let w = mark_width (edition_in s) in
      let z : length (steps_at s w 53 (steps_in s)) ≡ steps_in s = length_steps_at s w 53 (steps_in s) in
      let y : length (marks_at s w 53 (steps_in s)) ≡ steps_in s = length_marks_at s w 53 (steps_in s) in
      record {
        list = q ∙ sym (rw (c, z) refl);
        marks = r ∙ sym (rw (c, y) refl);
        again =
            λ h t. let i : h ≡ heading_of s = cc in
            rw (i, q, r, take_at (steps_at s w 53 (steps_in s)) (replicate (n - steps_in s) 65535) (steps_in s) z, take_at (marks_at s w 53 (steps_in s)) (replicate (m - steps_in s) 0) (steps_in s) y)
            (writes_again s ok small);
      }
