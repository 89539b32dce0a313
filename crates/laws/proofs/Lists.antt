-- Lists of numbers: an entry of a list of zeros, and what holds of each entry.
use Prim.Native.Nat.{ℕ, zero, suc, ◌<◌}
use mathlib.Core.Path.{◌≡◌, refl}
use mathlib.Core.List.{List, [], ◌∷◌}
use native.Mathlib.Omega.{arith}
use lib.ListN.{length, get_or, replicate}
use Rattle.laws.proofs.Steps.{All}

pub get_d_zeros : (n k : ℕ) → ◌≡◌ {A = ℕ} (get_or (replicate n 0) k 0) 0
get_d_zeros zero k = refl
get_d_zeros (suc n) zero = refl
get_d_zeros (suc n) (suc k) = get_d_zeros n k

pub all_at : (P : ℕ → Type 0) (l : List ℕ) → All P l → (k : ℕ) → k < length l → P (get_or l k 0)
all_at P [] a k h = absurd (omega arith)
all_at P (x ∷ l) a zero h = a.0
all_at P (x ∷ l) a (suc k) h = all_at P l a.1 k (omega arith)
