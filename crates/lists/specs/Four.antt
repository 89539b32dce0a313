-- Four numbers of 16 bits in one, the first one lowest, as they lie in a list.
use Rattle.std.specs.Prelude.{◌≡◌, List, ℕ, ◌+◌, ◌/◌, ◌%◌, set}

abbrev pub Spread : ℕ → ℕ → ℕ → ℕ → ℕ → Type 0
Spread x y z u w = (w % 65536 ≡ x) × (w / 65536 % 65536 ≡ y) × (w / 4294967296 % 65536 ≡ z) × (w / 281474976710656 ≡ u)

-- the list with them from place i on
abbrev pub with_four : List ℕ → ℕ → ℕ → List ℕ
with_four xs i w =
    set (set (set (set xs i (w % 65536)) (i + 1) (w / 65536 % 65536)) (i + 2) (w / 4294967296 % 65536)) (i + 3) (w / 281474976710656)
