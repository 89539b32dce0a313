-- The steps of a sheet as numbers of one width: their bits are the sheet's, whatever the edition.
use mathlib.Core.Bool.{Bool, true, false, not, ◌&&◌}
use mathlib.Core.List.{List, [], ◌∷◌, ◌++◌, append_assoc, append-nil}
use mathlib.Core.Path.{◌≡◌, refl, sym, ap, ◌∙◌}
use Prim.Native.Nat.{ℕ, zero, suc, ◌+◌, ◌*◌, ◌/◌, ◌%◌, ◌^◌, ◌<◌, ◌≤◌}
use native.Mathlib.Nat.{zero-add, suc-add, add_comm}
use native.Mathlib.Numerals.{add-one}
use native.Mathlib.Omega.{arith}
use borrow.Author.Tests.{ne_eqb}
use lib.Dec.{eqb}
use mir.Val.{bool_byte}
use Rattle.std.specs.Prelude.{nat_eq}
use lib.ListN.{length, get_or, drop, get_or-eq_default}
use lib.Pow.{pow_pos, pow-add}
use Rattle.std.proofs.lemmas.Nat.{mul-add-lt, shl_whole}
use lib.Seq.{get_or-drop, drop-drop}
use Rattle.planning.specs.Basics.{one_if}
use Rattle.planning.specs.Sheet.{bits_of, mark_of, step_bits, sheet_end, sheet_size}
use Rattle.bits.proofs.Pack.{bits_of_add, Same, same_prefix, same_zeros}
use Rattle.sheet.proofs.Widths.{mark_width_suc}
use Rattle.pack.specs.Fields.{entries, four_of}

-- numbers of n bits, one behind the other
unfoldable pub fields : ℕ → List ℕ → List ℕ
fields n [] = []
fields n (x ∷ xs) = bits_of n x ++ fields n xs

-- the first n numbers of a list, 0 standing for those that it lacks
unfoldable pub up_to : ℕ → List ℕ → List ℕ
up_to zero xs = []
up_to (suc n) xs = get_or xs 0 0 ∷ up_to n (drop 1 xs)

-- a byte other than 0 counts as 1 in edition 2, and a missing one as 0
pub mark_byte : (m : ℕ) → m < 256 → (m + 255) / 256 ≡ mark_of 2 m
unfolding mark_of one_if
mark_byte zero h = refl
mark_byte (suc m) h = rw (ne_eqb (suc m) 0 (λ e. omega arith)) (omega arith)

-- a test as a number
pub one_is : (b : Bool) → bool_byte b ≡ one_if b
unfolding one_if
one_is true = refl
one_is false = refl

pub one_if_lt : (b : Bool) → one_if b < 2
unfolding one_if
one_if_lt true = omega arith
one_if_lt false = omega arith

pub mark_bit : (m : ℕ) → bool_byte (not (nat_eq m 0)) ≡ mark_of 2 m
unfolding mark_of
mark_bit m = one_is (not (nat_eq m 0))

zero_unmarked : (e : ℕ) → mark_of e 0 ≡ 0
unfolding mark_of one_if
zero_unmarked e = go (eqb e 1)
  where
    go : (b : Bool) → one_if (not b && false) ≡ 0
    go true = refl
    go false = refl

pub mark_missing : (e : ℕ) (ms : List ℕ) (i : ℕ) → length ms ≤ i → 0 ≡ mark_of e (get_or ms i 0)
mark_missing e ms i h = rw (get_or-eq_default ms 0 h) (sym (zero_unmarked e))

pub no_mark : (m : ℕ) → mark_of 1 m ≡ 0
unfolding mark_of one_if
no_mark m = refl

pub mark_of_lt : (e m : ℕ) → mark_of e m < 2
unfolding mark_of
mark_of_lt e m = one_if_lt (not (eqb e 1) && not (eqb m 0))

pub mark_fits : (w : ℕ) → w ≤ 1 → (m i : ℕ) → i < 1024 → mark_of (suc w) m * 1024 + i < 2 ^ (w + 10)
mark_fits zero h m i l = rw (no_mark m) (omega arith)
mark_fits (suc zero) h m i l = omega (arith, mark_of_lt 2 m)
mark_fits (suc (suc w)) h m i l = absurd (omega arith)

-- Entries: one a step, and which.
pub length_entries : (e : ℕ) (l ms : List ℕ) → length (entries e l ms) ≡ length l
unfolding entries
length_entries e [] ms = refl
length_entries e (i ∷ l) ms = ap suc (length_entries e l (drop 1 ms))

pub get_d_entries : (e : ℕ) (l ms : List ℕ) (k : ℕ) → k < length l → get_or (entries e l ms) k 0 ≡ mark_of e (get_or ms k 0) * 1024 + get_or l k 0
unfolding entries
get_d_entries e [] ms k h = absurd (omega arith)
get_d_entries e (i ∷ l) ms zero h = refl
get_d_entries e (i ∷ l) ms (suc k) h = let n : 1 + k ≡ suc k = omega arith in get_d_entries e l (drop 1 ms) k (omega arith) ∙ rw (get_or-drop 1 ms k 0, n) refl

-- The bits of the steps are those of the entries.
pub step_bits_fields : (w : ℕ) → w ≤ 1 → (l ms : List ℕ) → ((k : ℕ) → get_or l k 0 < 1024) → step_bits (suc w) l ms ≡ fields (w + 10) (entries (suc w) l ms)
unfolding step_bits fields entries
step_bits_fields w h [] ms small = refl
step_bits_fields w h (i ∷ l) ms small =
    rw (
      mark_width_suc w h,
      step_bits_fields w h l (drop 1 ms) (λ k. small (suc k)),
      bits_of_add w 10 (mark_of (suc w) (get_or ms 0 0)) i (small 0),
      append_assoc,
    ) refl

-- Some entries in front, and the others; where there are fewer, zeros stand for those that are missing.
pub fields_split : (n m : ℕ) (xs : List ℕ) → m ≤ length xs → fields n xs ≡ fields n (up_to m xs) ++ fields n (drop m xs)
unfolding fields up_to
fields_split n zero xs h = refl
fields_split n (suc m) [] h = absurd (omega arith)
fields_split n (suc m) (x ∷ xs) h = rw (fields_split n m xs (omega arith), append_assoc) refl

pub fields_padded : (n m : ℕ) (xs : List ℕ) → length xs ≤ m → Same (fields n (up_to m xs)) (fields n xs)
unfolding fields up_to
fields_padded n zero [] h = λ k. refl
fields_padded n zero (x ∷ xs) h = absurd (omega arith)
fields_padded n (suc m) [] h = same_zeros n (fields n (up_to m [])) (fields_padded n m [] (omega arith))
fields_padded n (suc m) (x ∷ xs) h = same_prefix (bits_of n x) (fields n (up_to m xs)) (fields n xs) (fields_padded n m xs (omega arith))

fields_append : (n : ℕ) (xs ys : List ℕ) → fields n (xs ++ ys) ≡ fields n xs ++ fields n ys
unfolding fields
fields_append n [] ys = refl
fields_append n (x ∷ xs) ys = rw (fields_append n xs ys, append_assoc) refl

up_to_add : (n m : ℕ) (xs : List ℕ) → up_to (n + m) xs ≡ up_to n xs ++ up_to m (drop n xs)
unfolding up_to
up_to_add zero m xs = rw zero-add refl
up_to_add (suc n) m xs = rw (suc-add, up_to_add n m (drop 1 xs), drop-drop n 1 xs, add_comm 1 n, add-one n) refl

-- eight entries are four and four
pub fields_eight : (n i : ℕ) (xs : List ℕ) → fields n (up_to 8 (drop i xs)) ≡ fields n (up_to 4 (drop i xs)) ++ fields n (up_to 4 (drop (i + 4) xs))
fields_eight n i xs = rw (up_to_add 4 4 (drop i xs), fields_append, drop-drop 4 i xs) refl

-- four entries as one number
up_to_none : (xs : List ℕ) → up_to 0 xs ≡ []
unfolding up_to
up_to_none xs = refl

fields_four : (n a b c d : ℕ) → fields n (a ∷ b ∷ c ∷ d ∷ []) ≡ bits_of n a ++ (bits_of n b ++ (bits_of n c ++ bits_of n d))
unfolding fields
fields_four n a b c d = rw append-nil refl

up_to_at : (n i : ℕ) (xs : List ℕ) → up_to (suc n) (drop i xs) ≡ get_or xs i 0 ∷ up_to n (drop (i + 1) xs)
unfolding up_to
up_to_at n i xs =
    let e : i + 0 ≡ i = omega arith in
    rw (get_or-drop i xs 0 0, e, drop-drop 1 i xs) refl

up_to_four : (i : ℕ) (xs : List ℕ) → up_to 4 (drop i xs) ≡ get_or xs i 0 ∷ get_or xs (i + 1) 0 ∷ get_or xs (i + 2) 0 ∷ get_or xs (i + 3) 0 ∷ []
up_to_four i xs =
    let i2 : i + 1 + 1 ≡ i + 2 = omega arith in
    let i3 : i + 2 + 1 ≡ i + 3 = omega arith in
    rw (up_to_at 3 i xs, up_to_at 2 (i + 1) xs, i2, up_to_at 1 (i + 2) xs, i3, up_to_at 0 (i + 3) xs, up_to_none) refl

pub four_fields : (n : ℕ) (xs : List ℕ) (i r : ℕ) → ((k : ℕ) → get_or xs k 0 < 2 ^ n) → r ≡ four_of n xs i → bits_of (4 * n) r ≡ fields n (up_to 4 (drop i xs))
four_fields n xs i r small e =
    let a = get_or xs i 0 in
    let b = get_or xs (i + 1) 0 in
    let c = get_or xs (i + 2) 0 in
    let d = get_or xs (i + 3) 0 in
    let w : 4 * n ≡ n + n + n + n = omega arith in
    rw (
      w,
      e,
      bits_of_add (n + n + n) n ((a * 2 ^ n + b) * 2 ^ n + c) d (small (i + 3)),
      bits_of_add (n + n) n (a * 2 ^ n + b) c (small (i + 2)),
      bits_of_add n n a b (small (i + 1)),
      up_to_four i xs,
    ) (simp append_assoc (sym (fields_four n a b c d)))

-- an entry fits its bits
pub entries_fit : (w : ℕ) → w ≤ 1 → (l ms : List ℕ) → ((k : ℕ) → get_or l k 0 < 1024) → (k : ℕ) → get_or (entries (suc w) l ms) k 0 < 2 ^ (w + 10)
unfolding entries
entries_fit w h [] ms small k = pow_pos (w + 10)
entries_fit w h (i ∷ l) ms small zero = mark_fits w h (get_or ms 0 0) i (small 0)
entries_fit w h (i ∷ l) ms small (suc k) = entries_fit w h l (drop 1 ms) (λ j. small (suc j)) k

-- step i behind its mark, 0 behind the list
pub entry_in : (w : ℕ) (l ms : List ℕ) (i m x : ℕ) → i < length l → m ≡ mark_of (suc w) (get_or ms i 0) → x ≡ get_or l i 0 → m * 1024 + x ≡ get_or (entries (suc w) l ms) i 0
entry_in w l ms i m x h em ex = rw (em, ex) (sym (get_d_entries (suc w) l ms i h))

pub entry_behind : (w : ℕ) (l ms : List ℕ) (i : ℕ) → length l ≤ i → 0 ≡ get_or (entries (suc w) l ms) i 0
entry_behind w l ms i h = sym (get_or-eq_default (entries (suc w) l ms) 0 (rw length_entries h))

-- an entry in a sheet with marks or without
pub entry_below : (w : ℕ) → w ≤ 1 → (x : ℕ) → x < 1024 * (w + 1) → x < 2 ^ (w + 10)
entry_below zero h x l = omega arith
entry_below (suc zero) h x l = omega arith
entry_below (suc (suc w)) h x l = absurd (omega arith)

-- Four numbers of n bits as one: each is shifted to its place.
module _ (n a b c d : ℕ) (ha : a < 2 ^ n) (hb : b < 2 ^ n) (hc : c < 2 ^ n) (hd : d < 2 ^ n) where
  four_below : ((a * 2 ^ n + b) * 2 ^ n + c) * 2 ^ n + d < 2 ^ (4 * n)
  four_below =
      let p = 2 ^ n in
      let k : 4 * n ≡ n + (n + (n + n)) = omega arith in
      let u = mul-add-lt a p b p ha hb in
      let v = mul-add-lt (a * p + b) p c (p * p) u hc in
      rw (k, pow-add 2 n (n + (n + n)), pow-add 2 n (n + n), pow-add 2 n n) (mul-add-lt ((a * p + b) * p + c) p d (p * (p * p)) v hd)

  pub four_shifted : n ≤ 11
      → let r = a * 2 ^ (3 * n) % 2 ^ 64 + b * 2 ^ (2 * n) % 2 ^ 64 + c * 2 ^ n % 2 ^ 64 + d in (r ≡ ((a * 2 ^ n + b) * 2 ^ n + c) * 2 ^ n + d) × (r < 2 ^ (4 * n))
  four_shifted h =
      let p = 2 ^ n in
      let k : 3 * n ≡ n + (n + n) = omega arith in
      let j : 2 * n ≡ n + n = omega arith in
      let three : 2 ^ (3 * n) ≡ p * (p * p) = rw (k, pow-add 2 n (n + n), pow-add 2 n n) refl in
      let two : 2 ^ (2 * n) ≡ p * p = rw (j, pow-add 2 n n) refl in
      let x = shl_whole a n (3 * n) 64 ha (omega arith) in
      let y = shl_whole b n (2 * n) 64 hb (omega arith) in
      let z = shl_whole c n n 64 hc (omega arith) in
      let e : a * 2 ^ (3 * n) + b * 2 ^ (2 * n) + c * p + d ≡ ((a * p + b) * p + c) * p + d = rw (three, two) (omega arith) in
      rw (x, y, z, e) (refl, four_below)

pub four_entries_below : (w : ℕ) → w ≤ 1 → (l ms : List ℕ) → ((k : ℕ) → get_or l k 0 < 1024) → (i : ℕ) → four_of (w + 10) (entries (suc w) l ms) i < 2 ^ (4 * (w + 10))
four_entries_below w h l ms small i =
    let s = entries_fit w h l ms small in
    four_below (w + 10) _ _ _ _ (s i) (s (i + 1)) (s (i + 2)) (s (i + 3))

-- four entries as one number: without marks they are the steps
pub plain_is : (w : ℕ) → w ≡ 0 → (l ms : List ℕ) (i r : ℕ) → i + 4 ≤ length l → r ≡ four_of 10 l i → r ≡ four_of (w + 10) (entries (suc w) l ms) i
plain_is w z l ms i r h e = rw z (e ∙ rw (same i (omega arith), same (i + 1) (omega arith), same (i + 2) (omega arith), same (i + 3) (omega arith)) refl)
  where
    same : (k : ℕ) → k < length l → get_or l k 0 ≡ get_or (entries 1 l ms) k 0
    same k b = sym (get_d_entries 1 l ms k b ∙ rw (no_mark (get_or ms k 0)) (omega arith))

-- the size of a sheet by its entries
pub size_entries : (w : ℕ) → w ≤ 1 → (l ms : List ℕ) → sheet_size (suc w) (length l) ≡ (53 + (w + 10) * length (entries (suc w) l ms) + 7) / 8
unfolding sheet_size sheet_end
size_entries w h l ms = rw (mark_width_suc w h, length_entries) refl
