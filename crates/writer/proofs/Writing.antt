-- Writing the steps: eight entries behind five bits fill as many bytes as an entry has bits and leave five bits; the last seven at most are
-- padded.
use mathlib.Core.List.{List, ◌++◌, append_assoc, append-nil}
use mathlib.Core.Path.{◌≡◌, refl, sym, ap, ◌∙◌}
use Prim.Native.Nat.{ℕ, zero, suc, ◌+◌, ◌-◌, ◌*◌, ◌/◌, ◌%◌, ◌^◌, ◌<◌, ◌≤◌, min}
use native.Mathlib.Nat.{mul_assoc, mul-le-mul_left}
use native.Mathlib.Omega.{arith}
use lib.ListN.{length, get_or, take, drop, length-append, length-drop}
use lib.Pow.{pow-add}
use lib.Seq.{length-take-le, take_at, drop-drop}
use Rattle.planning.specs.Basics.{one_if}
use Rattle.planning.specs.Sheet.{Sheet, bits_of, edition_of, step_bits, sheet_bits, packed, sheet_size, sheet_end, sheet_bytes}
use Rattle.bits.proofs.Pack.{bits_of_add, bits_of_low, packed_front, packed_none, length_packed, packed_same, same_prefix}
use Rattle.pack.specs.Fields.{entries, four_of, eight_bits}
use Rattle.pack.proofs.Words.{low_bits}
use Rattle.pack.proofs.Fields.{length_entries, size_entries, fields, up_to, fields_split, fields_padded, fields_eight, four_fields}

-- m low bits of a number do not see what stands above n of them
low_of : (m n a b : ℕ) → m ≤ n → bits_of m (a * 2 ^ n + b) ≡ bits_of m b
low_of m n a b h =
    let k : n ≡ n - m + m = omega arith in
    let e : a * 2 ^ n ≡ a * 2 ^ (n - m) * 2 ^ m = ap (λ (j : ℕ). a * 2 ^ j) k ∙ rw (pow-add 2 (n - m) m, ← mul_assoc) refl in
    rw e (bits_of_low m (a * 2 ^ (n - m)) b)

-- the bytes in front of a number do not see what stands behind it
packed_prefix : (n w v : ℕ) (r : List ℕ) → 8 * n ≤ w → packed n (bits_of w v ++ r) ≡ packed n (bits_of w v)
packed_prefix n w v r h =
    let k : n ≡ n + 0 = omega arith in
    ap (λ (j : ℕ). packed j (bits_of w v ++ r)) k ∙ packed_front n 0 w (w - 8 * n) v r (omega arith) ∙ rw (packed_none, append-nil) refl

-- Eight entries behind five bits, as two numbers of which the second has the end of the first.
module _ (w : ℕ) (h : w ≤ 1) (five a b : ℕ) (ha : a < 2 ^ (4 * (w + 10))) (hb : b < 2 ^ (4 * (w + 10))) where
  first : ℕ
  first = five * 2 ^ (4 * (w + 10)) + a

  second : ℕ
  second = a * 2 ^ (4 * (w + 10)) + b

  eight_first : eight_bits w five a b ≡ bits_of (5 + 4 * (w + 10)) first ++ bits_of (4 * (w + 10)) b
  unfolding eight_bits first
  eight_first = rw (bits_of_add 5 (4 * (w + 10)) five a ha, append_assoc) refl

  first_second : bits_of (21 - 4 * w) first ++ bits_of (4 * (w + 10)) b ≡ bits_of 61 second
  unfolding first second
  first_second =
      let k : 61 ≡ 21 - 4 * w + 4 * (w + 10) = omega arith in
      rw (k, bits_of_add (21 - 4 * w) (4 * (w + 10)) a b hb, low_of (21 - 4 * w) (4 * (w + 10)) five a (omega arith)) refl

  -- n bytes of the first and c of the second
  eight_bytes : (n c : ℕ) → n ≤ w + 3 → (0 < c → n ≡ w + 3) → c ≤ 7 → packed (n + c) (eight_bits w five a b) ≡ packed n (bits_of (5 + 4 * (w + 10)) first) ++ packed c (bits_of 61 second)
  eight_bytes n zero l e m =
      let k : n + 0 ≡ n = omega arith in
      rw (k, eight_first, packed_none, append-nil) (packed_prefix n (5 + 4 * (w + 10)) first _ (omega arith))
  eight_bytes n (suc c) l e m =
      let q : n ≡ w + 3 = e (omega arith) in
      rw (q, eight_first, packed_front (w + 3) (suc c) (5 + 4 * (w + 10)) (21 - 4 * w) first (bits_of (4 * (w + 10)) b) (omega arith), first_second) refl

  -- what stands behind them
  pub eight_front : (m : ℕ) (r : List ℕ) → packed (w + 10 + m) (eight_bits w five a b ++ r) ≡ packed (w + 10) (eight_bits w five a b) ++ packed m (bits_of 5 b ++ r)
  unfolding first
  eight_front m r =
      let n = 4 * (w + 10) in
      let v = first * 2 ^ n + b in
      let e : eight_bits w five a b ≡ bits_of (5 + n + n) v = eight_first ∙ sym (bits_of_add (5 + n) n first b hb) in
      rw (e, packed_front (w + 10) m (5 + n + n) 5 v r (omega arith), low_of 5 n first b (omega arith)) refl

-- the bytes in front after a write from a place on
pub front_after : (d e p q r : List ℕ) (at n : ℕ) → at ≤ length d → length p ≡ n → e ≡ take at d ++ (p ++ q) ++ r → take (at + n) e ≡ take at d ++ p
front_after d e p q r at n h l g =
    rw (g, ← append_assoc (take at d) p q, append_assoc (take at d ++ p) q r)
    (take_at (take at d ++ p) (q ++ r) (at + n) (rw (length-append, length-take-le at d h, l) refl))

-- Two words written one behind the other: n bytes of the first stay, c of the second count.
module _ (w : ℕ) (h : w ≤ 1) (five a b : ℕ) (ha : a < 2 ^ (4 * (w + 10))) (hb : b < 2 ^ (4 * (w + 10))) (d e f : List ℕ) (at n c : ℕ) where
  both_written : (x y j k : ℕ) (r t : List ℕ)
      → bits_of 64 x ≡ bits_of (5 + 4 * (w + 10)) (five * 2 ^ (4 * (w + 10)) + a) ++ bits_of (19 - 4 * w) 0
      → bits_of 64 y ≡ bits_of 61 (a * 2 ^ (4 * (w + 10)) + b) ++ bits_of 3 0
      → at + n ≤ length d → length e ≡ length d → n ≤ w + 3 → (0 < c → n ≡ w + 3) → c ≤ 7
      → e ≡ take at d ++ packed (n + j) (bits_of 64 x) ++ r → f ≡ take (at + n) e ++ packed (c + k) (bits_of 64 y) ++ t
      → take (at + (n + c)) f ≡ take at d ++ packed (n + c) (eight_bits w five a b)
  unfolding first second
  both_written x y j k r t ex ey room long l z m we wf =
      let v = five * 2 ^ (4 * (w + 10)) + a in
      let u = a * 2 ^ (4 * (w + 10)) + b in
      let px : packed (n + j) (bits_of 64 x) ≡ packed n (bits_of (5 + 4 * (w + 10)) v) ++ packed j (bits_of (5 + 4 * (w + 10) - 8 * n) v ++ bits_of (19 - 4 * w) 0) =
      rw ex (packed_front n j (5 + 4 * (w + 10)) (5 + 4 * (w + 10) - 8 * n) v (bits_of (19 - 4 * w) 0) (omega arith)) in
      let py : packed (c + k) (bits_of 64 y) ≡ packed c (bits_of 61 u) ++ packed k (bits_of (61 - 8 * c) u ++ bits_of 3 0) =
      rw ey (packed_front c k 61 (61 - 8 * c) u (bits_of 3 0) (omega arith)) in
      let te : take (at + n) e ≡ take at d ++ packed n (bits_of (5 + 4 * (w + 10)) v) =
      front_after d e (packed n (bits_of (5 + 4 * (w + 10)) v)) (packed j (bits_of (5 + 4 * (w + 10) - 8 * n) v ++ bits_of (19 - 4 * w) 0)) r at n (omega arith) (length_packed n _) (we ∙ rw px refl) in
      let tf : take (at + n + c) f ≡ take (at + n) e ++ packed c (bits_of 61 u) =
      front_after e f (packed c (bits_of 61 u)) (packed k (bits_of (61 - 8 * c) u ++ bits_of 3 0)) t (at + n) c (omega (arith, long)) (length_packed c _) (wf ∙ rw py refl) in
      let s : at + (n + c) ≡ at + n + c = omega arith in
      rw (s, tf, te, eight_bytes w h five a b ha hb n c l z m, append_assoc) refl

-- the same as the code has them: eight bytes of each, and as many as are left
module _ (w : ℕ) (h : w ≤ 1) (five a b : ℕ) (ha : a < 2 ^ (4 * (w + 10))) (hb : b < 2 ^ (4 * (w + 10))) (d e f : List ℕ) (at x y : ℕ)
    (ex : bits_of 64 x ≡ bits_of (5 + 4 * (w + 10)) (five * 2 ^ (4 * (w + 10)) + a) ++ bits_of (19 - 4 * w) 0)
    (ey : bits_of 64 y ≡ bits_of 61 (a * 2 ^ (4 * (w + 10)) + b) ++ bits_of 3 0) (long : length e ≡ length d) where
  pub eight_written : at + w + 11 ≤ length d → e ≡ take at d ++ packed 8 (bits_of 64 x) ++ drop (at + 8) d
      → f ≡ take (at + w + 3) e ++ packed 8 (bits_of 64 y) ++ drop (at + w + 3 + 8) e → take (at + (w + 10)) f ≡ take at d ++ packed (w + 10) (eight_bits w five a b)
  eight_written room we wf =
      let p : at + w + 3 ≡ at + (w + 3) = omega arith in
      let q : w + 10 ≡ w + 3 + 7 = omega arith in
      let n : 8 ≡ w + 3 + (5 - w) = omega arith in
      rw q
      (both_written w h five a b ha hb d e f at (w + 3) 7 x y (5 - w) 1 _ _ ex ey (omega arith) long (omega arith) (λ z. refl) (omega arith)
      (we ∙ ap (λ (k : ℕ). take at d ++ packed k (bits_of 64 x) ++ drop (at + 8) d) n)
      (wf ∙ ap (λ (k : ℕ). take k e ++ packed 8 (bits_of 64 y) ++ drop (at + w + 3 + 8) e) p))

  pub last_written : (count n : ℕ) → n ≡ min count (w + 3) → count ≤ w + 10 → at + count ≤ length d → e ≡ take at d ++ packed n (bits_of 64 x) ++ drop (at + n) d
      → f ≡ take (at + n) e ++ packed (count - n) (bits_of 64 y) ++ drop (at + n + (count - n)) e → take (at + count) f ≡ take at d ++ packed count (eight_bits w five a b)
  last_written count n g m room we wf =
      let q : count ≡ n + (count - n) = omega arith in
      let i : n ≡ n + 0 = omega arith in
      let j : count - n ≡ count - n + 0 = omega arith in
      rw q
      (both_written w h five a b ha hb d e f at n (count - n) x y 0 0 _ _ ex ey (omega arith) long (omega arith) (λ z. omega arith) (omega arith)
      (we ∙ ap (λ (k : ℕ). take at d ++ packed k (bits_of 64 x) ++ drop (at + n) d) i)
      (wf ∙ ap (λ (k : ℕ). take (at + n) e ++ packed k (bits_of 64 y) ++ drop (at + n + (count - n)) e) j))

-- The area while the steps are written: what is packed of the whole is what stands in front and what is packed of five bits and the rest.
pub record Writing (w : ℕ) (es : List ℕ) (head size : ℕ) (d₀ d : List ℕ) (five at i : ℕ) : Type 0 where
  pub few : five < 32
  pub passed : i ≤ length es
  pub place : 8 * at ≡ 48 + (w + 10) * i
  pub long : length d ≡ length d₀
  pub so_far : take 6 d₀ ++ packed (size - 6) (bits_of 5 head ++ fields (w + 10) es) ≡ take at d ++ packed (size - at) (bits_of 5 five ++ fields (w + 10) (drop i es))

-- as many entries as steps, and the size by them
pub counted : (w : ℕ) → w ≤ 1 → (l ms : List ℕ) (size : ℕ) → size ≡ sheet_size (suc w) (length l)
    → let es = entries (suc w) l ms in (length es ≡ length l) × (size ≡ (53 + (w + 10) * length es + 7) / 8)
counted w h l ms size e = (length_entries _ l ms, e ∙ size_entries w h l ms)

pub writing_start : (w : ℕ) (es : List ℕ) (head size : ℕ) (d : List ℕ) → Writing w es head size d d (head % 32) 6 0
writing_start w es head size d = record { few = omega arith; passed = omega arith; place = omega arith; long = refl; so_far = rw (low_bits 5 head) refl }

module _ (w : ℕ) (h : w ≤ 1) (es : List ℕ) (head size : ℕ) (d₀ d : List ℕ) (five at i : ℕ) (g : Writing w es head size d₀ d five at i)
    (es-size : size ≡ (53 + (w + 10) * length es + 7) / 8) (room : size ≤ length d₀) where
  -- w times the entries from i + k on
  left : (k : ℕ) → i + k ≤ length es → w * length es ≡ w * (i + k + (length es - (i + k)))
  left k l = ap (λ (n : ℕ). w * n) (omega arith)

  pub writing_room : i + 8 ≤ length es → at + w + 11 ≤ length d
  writing_room l = omega (arith, g.place, g.long, left 8 l)

  pub writing_last : length es < i + 8 → (at ≤ size) × (size - at ≤ w + 10) × (size ≤ length d)
  writing_last l =
      let n : ℕ = length es - i in
      let e : w * length es ≡ w * (i + n) = ap (λ (k : ℕ). w * k) (omega (arith, g.passed)) in
      let u : w * n ≤ w * 7 = mul-le-mul_left w (omega (arith, g.passed)) in
      (omega (arith, g.place, g.passed, e), omega (arith, g.place, g.passed, e, u), omega (arith, g.long))

  module _ (small : (k : ℕ) → get_or es k 0 < 2 ^ (w + 10)) (a b : ℕ) (ea : a ≡ four_of (w + 10) es i) (eb : b ≡ four_of (w + 10) es (i + 4))
      (ha : a < 2 ^ (4 * (w + 10))) (hb : b < 2 ^ (4 * (w + 10))) where
    eight_is : eight_bits w five a b ≡ bits_of 5 five ++ fields (w + 10) (up_to 8 (drop i es))
    unfolding eight_bits
    eight_is = rw (four_fields (w + 10) es i a small ea, four_fields (w + 10) es (i + 4) b small eb, fields_eight (w + 10) i es) refl

    pub writing_turn : (e : List ℕ) → i + 8 ≤ length es → length e ≡ length d → take (at + (w + 10)) e ≡ take at d ++ packed (w + 10) (eight_bits w five a b)
        → Writing w es head size d₀ e (b % 32) (at + (w + 10)) (i + 8)
    writing_turn e l n q =
        let k : size - at ≡ w + 10 + (size - (at + (w + 10))) = omega (arith, g.place, left 8 l) in
        let s : bits_of 5 five ++ fields (w + 10) (drop i es) ≡ eight_bits w five a b ++ fields (w + 10) (drop (i + 8) es) =
        rw (eight_is, fields_split (w + 10) 8 (drop i es) (rw length-drop (omega arith)), drop-drop 8 i es, append_assoc) refl in
        record {
          few = omega arith;
          passed = l;
          place = omega (arith, g.place);
          long = n ∙ g.long;
          so_far =
              g.so_far ∙ rw (s, k, eight_front w h five a b ha hb (size - (at + (w + 10))) (fields (w + 10) (drop (i + 8) es)), ← append_assoc, ← q, ← low_bits 5 b) refl;
        }

    pub writing_end : (e : List ℕ) → length es < i + 8 → take (at + (size - at)) e ≡ take at d ++ packed (size - at) (eight_bits w five a b)
        → take size e ≡ take 6 d₀ ++ packed (size - 6) (bits_of 5 head ++ fields (w + 10) es)
    writing_end e l q =
        let k : at + (size - at) ≡ size = omega (arith, writing_last l) in
        let p : packed (size - at) (eight_bits w five a b) ≡ packed (size - at) (bits_of 5 five ++ fields (w + 10) (drop i es)) =
        rw eight_is (packed_same (size - at) _ _ (same_prefix (bits_of 5 five) _ _ (fields_padded (w + 10) 8 (drop i es) (rw length-drop (omega arith))))) in
        rw k at q ∙ rw p (sym g.so_far)

-- the bytes in front, once the front and the steps are written
pub sheet_written : (x : Sheet) (v size : ℕ) (d d₁ d₂ : List ℕ)
    → bits_of 53 v ≡ bits_of 4 (edition_of x.edition) ++ (bits_of 1 (one_if x.real) ++ (bits_of 16 (length x.steps) ++ bits_of 32 x.cost))
    → size ≡ sheet_size x.edition (length x.steps) → d₁ ≡ take 0 d ++ packed 6 (bits_of 53 v) ++ drop 6 d
    → take size d₂ ≡ take 6 d₁ ++ packed (size - 6) (bits_of 5 v ++ step_bits x.edition x.steps x.marks) → take size d₂ ≡ sheet_bytes x
unfolding sheet_bytes sheet_bits sheet_size sheet_end
sheet_written x v size d d₁ d₂ e z q w =
    let k : size ≡ 6 + (size - 6) = omega arith in
    let r = step_bits x.edition x.steps x.marks in
    let b : sheet_bits x ≡ bits_of 53 v ++ r = rw e (simp append_assoc) in
    let p : packed 6 (bits_of 53 v) ++ packed (size - 6) (bits_of 5 v ++ r) ≡ packed size (sheet_bits x) =
    sym (ap (λ (n : ℕ). packed n (sheet_bits x)) k ∙ rw b (packed_front 6 (size - 6) 53 5 v r refl)) in
    w ∙ rw (q, take_at (packed 6 (bits_of 53 v)) (drop 6 d) 6 (length_packed 6 (bits_of 53 v))) (p ∙ ap (λ (n : ℕ). packed n (sheet_bits x)) z)
