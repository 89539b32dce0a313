-- Marks as the top bits of bytes, and moved to where they stand before their steps.
use mathlib.Core.List.{List}
use mathlib.Core.Path.{◌≡◌, refl, sym, ◌∙◌}
use Prim.Native.Nat.{ℕ, ◌+◌, ◌-◌, ◌*◌, ◌/◌, ◌%◌, ◌<◌, ◌≤◌}
use native.Mathlib.Omega.{arith}
use lib.ListN.{length, get_or}
use Rattle.planning.specs.Basics.{bits_at}
use Rattle.planning.specs.Sheet.{mark_of}
use Rattle.bits.proofs.Window.{bits_at_word, bits_at_long, four_bits}
use Rattle.pack.specs.Fields.{entries, four_of, halves_of, FourTops}
use Rattle.pack.proofs.Fields.{mark_byte, get_d_entries}

-- Four bytes below others: each of them, and its top bit.
module _ (a b c d v : ℕ) (ha : a < 256) (hb : b < 256) (hc : c < 256) (hd : d < 256) (e : v % 4294967296 ≡ a * 16777216 + b * 65536 + c * 256 + d) where
  halved : halves_of v ≡ a / 2 * 16777216 + b / 2 * 65536 + c / 2 * 256 + d / 2
  halved =
      let p : v / 16777216 ≡ v / 4294967296 * 256 + a = omega arith in
      let q : v / 65536 ≡ v / 4294967296 * 65536 + a * 256 + b = omega arith in
      let r : v / 256 ≡ v / 4294967296 * 16777216 + a * 65536 + b * 256 + c = omega arith in
      let p' : v / 16777216 % 256 ≡ a = rw p (omega arith) in
      let q' : v / 65536 % 256 ≡ b = rw q (omega arith) in
      let r' : v / 256 % 256 ≡ c = rw r (omega arith) in
      let s' : v % 256 ≡ d = omega arith in
      rw (p', q', r', s') refl

  top_first : v / 2147483648 % 2 ≡ a / 128
  top_first = let p : v / 2147483648 ≡ v / 4294967296 * 2 + a / 128 = omega arith in rw p (omega arith)

  top_second : v / 8388608 % 2 ≡ b / 128
  top_second = let p : v / 8388608 ≡ v / 4294967296 * 512 + a * 2 + b / 128 = omega arith in rw p (omega arith)

  top_third : v / 32768 % 2 ≡ c / 128
  top_third = let p : v / 32768 ≡ v / 4294967296 * 131072 + a * 512 + b * 2 + c / 128 = omega arith in rw p (omega arith)

  top_last : v / 128 % 2 ≡ d / 128
  top_last = let p : v / 128 ≡ v / 4294967296 * 33554432 + a * 131072 + b * 512 + c * 2 + d / 128 = omega arith in rw p (omega arith)

-- half of a byte rounded up, and 127
raised_mark : (v : ℕ) → v < 256 → ((v + 1) / 2 + 127) / 128 ≡ mark_of 2 v
raised_mark v h = let e : ((v + 1) / 2 + 127) / 128 ≡ (v + 255) / 256 = omega arith in e ∙ mark_byte v h

raised_fits : (v : ℕ) → v < 256 → (v + 1) / 2 + 127 < 256
raised_fits v h = omega arith

tops_four : (s : List ℕ) (i x : ℕ) → ((k : ℕ) → get_or s k 0 < 256)
    → x % 4294967296
    ≡ ((get_or s i 0 + 1) / 2 + 127) * 16777216 + ((get_or s (i + 1) 0 + 1) / 2 + 127) * 65536 + ((get_or s (i + 2) 0 + 1) / 2 + 127) * 256 + ((get_or s (i + 3) 0 + 1) / 2 + 127)
    → FourTops s i x
tops_four s i x h e =
    let a = raised_fits _ (h i) in
    let b = raised_fits _ (h (i + 1)) in
    let c = raised_fits _ (h (i + 2)) in
    let d = raised_fits _ (h (i + 3)) in (
      top_first _ _ _ _ x a b c d e ∙ raised_mark _ (h i),
      top_second _ _ _ _ x a b c d e ∙ raised_mark _ (h (i + 1)),
      top_third _ _ _ _ x a b c d e ∙ raised_mark _ (h (i + 2)),
      top_last _ _ _ _ x a b c d e ∙ raised_mark _ (h (i + 3)),
    )

both_halves : (v : ℕ) → v ≡ v / 2 + (v + 1) / 2
both_halves v = omega arith

split_four : (a b c d p q r s t x y z : ℕ) → a ≡ p + t → b ≡ q + x → c ≡ r + y → d ≡ s + z
    → ((a * 256 + b) * 256 + c) * 256 + d ≡ (p * 16777216 + q * 65536 + r * 256 + s) + (t * 16777216 + x * 65536 + y * 256 + z)
split_four a b c d p q r s t x y z ea eb ec ed = omega arith

raised_four : (a b c d : ℕ) → a * 16777216 + b * 65536 + c * 256 + d + 2139062143 ≡ (a + 127) * 16777216 + (b + 127) * 65536 + (c + 127) * 256 + (d + 127)
raised_four a b c d = omega arith

-- Four bytes of a list, from place j on, as one number: the halves rounded down and those rounded up.
record Halved (s : List ℕ) (j v down up : ℕ) : Type 0 where
  is : v ≡ bits_at s (j * 8) 32
  both : v ≡ down + up
  below : v < 4294967296
  room : up + 2139062143 < 4294967296
  halves : (x : ℕ) → x % 4294967296 ≡ v → halves_of x ≡ down
  tops : (x : ℕ) → x % 4294967296 ≡ up + 2139062143 → FourTops s j x

module _ (s : List ℕ) (j : ℕ) (h : (k : ℕ) → get_or s k 0 < 256) where
  halved_four : let a = get_or s j 0 in let b = get_or s (j + 1) 0 in let c = get_or s (j + 2) 0 in let d = get_or s (j + 3) 0 in
      Halved s j (((a * 256 + b) * 256 + c) * 256 + d) (a / 2 * 16777216 + b / 2 * 65536 + c / 2 * 256 + d / 2)
      ((a + 1) / 2 * 16777216 + (b + 1) / 2 * 65536 + (c + 1) / 2 * 256 + (d + 1) / 2)
  halved_four =
      let a = get_or s j 0 in
      let b = get_or s (j + 1) 0 in
      let c = get_or s (j + 2) 0 in
      let d = get_or s (j + 3) 0 in
      let ha = h j in
      let hb = h (j + 1) in
      let hc = h (j + 2) in
      let hd = h (j + 3) in
      let up = raised_four ((a + 1) / 2) ((b + 1) / 2) ((c + 1) / 2) ((d + 1) / 2) in
      record {
        is = bits_at_word s j a b c d refl refl refl refl ha hb hc hd;
        both = split_four a b c d _ _ _ _ _ _ _ _ (both_halves a) (both_halves b) (both_halves c) (both_halves d);
        below = omega arith;
        room = omega (arith, raised_fits a ha, raised_fits b hb, raised_fits c hc, raised_fits d hd);
        halves = λ x e. halved a b c d x ha hb hc hd (e ∙ omega arith);
        tops = λ x e. tops_four s j x h (e ∙ up);
      }

-- the halves rounded up of two fours, each byte with 127 more
two_fours : (m p q u t v w hi lo : ℕ) → m ≡ v * 4294967296 + w → v ≡ p + u → w ≡ q + t → hi ≡ p → lo ≡ q → u + 2139062143 < 4294967296 → t + 2139062143 < 4294967296
    → let r = m - (hi * 4294967296 + lo) + 9187201950435737471 in
    (hi * 4294967296 + lo ≤ m) × (r < 18446744073709551616) × (r / 4294967296 % 4294967296 ≡ u + 2139062143) × (r % 4294967296 ≡ t + 2139062143)
two_fours m p q u t v w hi lo e ev ew eh el hu ht =
    let r = m - (hi * 4294967296 + lo) + 9187201950435737471 in
    let z : r ≡ (u + 2139062143) * 4294967296 + (t + 2139062143) = omega arith in
    (omega arith, rw z (omega arith), rw z (omega arith), rw z (omega arith))

-- each of them by itself
each_four : (m v w : ℕ) → m ≡ v * 4294967296 + w → v < 4294967296 → w < 4294967296 → (m / 4294967296 % 4294967296 ≡ v) × (m % 4294967296 ≡ w)
each_four m v w e hv hw = rw e (omega arith, omega arith)

pub tops_are : (s : List ℕ) (i m hi lo : ℕ) → ((k : ℕ) → get_or s k 0 < 256) → m ≡ bits_at s (i * 8) 64 → hi ≡ halves_of (m / 4294967296) → lo ≡ halves_of m
    → let r = m - (hi * 4294967296 + lo) + 9187201950435737471 in
    (hi * 4294967296 + lo ≤ m) × (r < 18446744073709551616) × FourTops s i (r / 4294967296) × FourTops s (i + 4) r
tops_are s i m hi lo h e eh el =
    let f = halved_four s i h in
    let g = halved_four s (i + 4) h in
    let z = e ∙ sym (bits_at_long s i _ _ f.is g.is) in
    let k = each_four m _ _ z f.below g.below in
    let t = two_fours m _ _ _ _ _ _ hi lo z f.both g.both (eh ∙ f.halves (m / 4294967296) k.0) (el ∙ g.halves m k.1) f.room g.room in
    (t.0, t.1, f.tops _ t.2, g.tops _ t.3)

-- Four bits that lie eight places apart, moved by one product to lie eleven apart.
pub bits_moved : (a b c d : ℕ) → a < 2 → b < 2 → c < 2 → d < 2
    → let m = (a * 2147483648 + b * 8388608 + c * 32768 + d * 128) * 4680 in
    m / 8796093022208 % 2 * 8796093022208 + m / 4294967296 % 2 * 4294967296 + m / 2097152 % 2 * 2097152 + m / 1024 % 2 * 1024
    ≡ a * 8796093022208 + b * 4294967296 + c * 2097152 + d * 1024
bits_moved = four_bits _ _ tt

-- Four steps, each in its place, and the marks before them.
pub marked_is : (l ms : List ℕ) (i r x m : ℕ) → i + 4 ≤ length l → r ≡ four_of 11 l i → FourTops ms i x
    → m ≡ x / 2147483648 % 2 * 8796093022208 + x / 8388608 % 2 * 4294967296 + x / 32768 % 2 * 2097152 + x / 128 % 2 * 1024
    → r + m ≡ four_of 11 (entries 2 l ms) i
marked_is l ms i r x m h er t e =
    let p = get_d_entries 2 l ms i (omega arith) in
    let q = get_d_entries 2 l ms (i + 1) (omega arith) in
    let s = get_d_entries 2 l ms (i + 2) (omega arith) in
    let u = get_d_entries 2 l ms (i + 3) (omega arith) in
    rw (e, t.0, t.1, t.2, t.3, p, q, s, u, er) (omega arith)
