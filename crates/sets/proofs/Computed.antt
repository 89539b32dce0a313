-- Membership computed: each of the 64 values is a member of the set of that value alone, and of the sets of its neighbours it is not.
use mathlib.Core.Path.{◌≡◌, refl}
use mathlib.Core.Bool.{Bool, true, not, ◌&&◌}
use Prim.Native.Nat.{ℕ, zero, suc, ◌+◌, ◌^◌}
use Rattle.sets.specs.Sets.{in_set}

abbrev row_of : ℕ → Bool
row_of x = in_set (2 ^ x) x && (not (in_set (2 ^ (x + 1)) x) && not (in_set (2 ^ x) (x + 1)))

unfoldable pub rows : ℕ → Bool
rows zero = true
rows (suc x) = rows x && row_of x

pub singles_computed : rows 64 ≡ true
unfolding rows in_set
singles_computed = refl
