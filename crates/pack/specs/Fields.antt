-- The steps of a sheet as numbers of one width: w bits of a mark and ten of its step.
use Rattle.std.specs.Prelude.{◌≡◌, ℕ, suc, ◌+◌, ◌*◌, ◌/◌, ◌%◌, ◌^◌, ◌<◌, List, [], ◌∷◌, ◌++◌, get_or, drop}
use Rattle.planning.specs.Sheet.{bits_of, mark_of}

-- each is a step that a sheet can hold
abbrev pub AllSteps : List ℕ → Type 0
AllSteps l = (k : ℕ) → get_or l k 0 < 1024

-- the steps of l, each behind its mark in a sheet of edition e
unfoldable pub entries : ℕ → List ℕ → List ℕ → List ℕ
entries e [] ms = []
entries e (i ∷ l) ms = (mark_of e (get_or ms 0 0) * 1024 + i) ∷ entries e l (drop 1 ms)

-- four numbers of n bits, from place i on, as one
abbrev pub four_of : ℕ → List ℕ → ℕ → ℕ
four_of n xs i = ((get_or xs i 0 * 2 ^ n + get_or xs (i + 1) 0) * 2 ^ n + get_or xs (i + 2) 0) * 2 ^ n + get_or xs (i + 3) 0

-- r has the four entries from place i on, with marks of w bits
abbrev pub FourAt : ℕ → List ℕ → List ℕ → ℕ → ℕ → Type 0
FourAt w l ms i r = (r ≡ four_of (w + 10) (entries (suc w) l ms) i) × (r < 2 ^ (4 * (w + 10)))

-- half of each of the low four bytes
abbrev pub halves_of : ℕ → ℕ
halves_of x = x / 16777216 % 256 / 2 * 16777216 + x / 65536 % 256 / 2 * 65536 + x / 256 % 256 / 2 * 256 + x % 256 / 2

-- the top bits of the low four bytes of x say which of the four marks from place i on are set
abbrev pub FourTops : List ℕ → ℕ → ℕ → Type 0
FourTops ms i x =
    (x / 2147483648 % 2 ≡ mark_of 2 (get_or ms i 0)) × (x / 8388608 % 2 ≡ mark_of 2 (get_or ms (i + 1) 0)) × (x / 32768 % 2 ≡ mark_of 2 (get_or ms (i + 2) 0)) × (x / 128 % 2 ≡ mark_of 2 (get_or ms (i + 3) 0))

-- eight entries, four in a number, behind five bits
unfoldable pub eight_bits : ℕ → ℕ → ℕ → ℕ → List ℕ
eight_bits w five a b = bits_of 5 five ++ (bits_of (4 * (w + 10)) a ++ bits_of (4 * (w + 10)) b)
