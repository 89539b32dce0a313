-- The bits of a mark, by the edition: none or one.
use mathlib.Core.Bool.{Bool, true, false, not}
use mathlib.Core.List.{List, [], ◌∷◌}
use mathlib.Core.Path.{◌≡◌, refl}
use Prim.Native.Nat.{ℕ, zero, suc, ◌+◌, ◌/◌, ◌≤◌}
use native.Mathlib.Omega.{arith}
use lib.Dec.{eqb}
use mir.Val.{bool_byte}
use Rattle.std.specs.Prelude.{nat_eq}
use Rattle.std.specs.Int.{div_ceil}
use lib.ListN.{get_or, drop}
use Rattle.planning.specs.Basics.{one_if}
use Rattle.planning.specs.Sheet.{mark_width, mark_of, step_bits, sheet_end, sheet_size}

-- The width of a mark says all of an edition that is looked at.
pub mark_width_le : (e : ℕ) → mark_width e ≤ 1
unfolding mark_width one_if
mark_width_le e = go (eqb e 1)
  where
    go : (b : Bool) → one_if (not b) ≤ 1
    go true = omega arith
    go false = omega arith

pub mark_width_suc : (w : ℕ) → w ≤ 1 → mark_width (suc w) ≡ w
unfolding mark_width one_if
mark_width_suc zero h = refl
mark_width_suc (suc zero) h = refl
mark_width_suc (suc (suc w)) h = absurd (omega arith)

pub mark_of_suc : (e m : ℕ) → mark_of (suc (mark_width e)) m ≡ mark_of e m
unfolding mark_width mark_of one_if
mark_of_suc e m = go (eqb e 1) refl
  where
    go : (b : Bool) → eqb e 1 ≡ b → mark_of (suc (mark_width e)) m ≡ mark_of e m
    go true q = rw q refl
    go false q = rw q refl

pub step_bits_suc : (e : ℕ) (l ms : List ℕ) → step_bits (suc (mark_width e)) l ms ≡ step_bits e l ms
unfolding step_bits
step_bits_suc e [] ms = refl
step_bits_suc e (i ∷ l) ms = rw (mark_width_suc (mark_width e) (mark_width_le e), mark_of_suc e (get_or ms 0 0), step_bits_suc e l (drop 1 ms)) refl

pub sheet_size_suc : (e n : ℕ) → sheet_size (suc (mark_width e)) n ≡ sheet_size e n
unfolding sheet_size sheet_end
sheet_size_suc e n = rw (mark_width_suc (mark_width e) (mark_width_le e)) refl

pub width_is : (e : ℕ) → bool_byte (not (nat_eq e 1)) ≡ mark_width e
unfolding mark_width one_if
width_is e = go (eqb e 1)
  where
    go : (b : Bool) → bool_byte (not b) ≡ one_if (not b)
    go true = refl
    go false = refl

-- the bytes that so many bits fill
pub eighths : (n : ℕ) → div_ceil n 8 ≡ (n + 7) / 8
eighths n = omega arith
