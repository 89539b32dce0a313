-- All values below a number, as a set.
use mathlib.Core.Path.{◌≡◌, sym, ◌∙◌}
use Prim.Native.Nat.{ℕ, zero, suc, ◌-◌, ◌/◌, ◌%◌, ◌^◌, ◌<◌}
use native.Mathlib.Nat.{pow-suc}
use native.Mathlib.Omega.{arith}
use native.Mathlib.Decide.{dec_lt}
use borrow.Author.Tests.{lt-ltb, le-ltb}
use lib.Dec.{ltb}
use lib.Pow.{pow_pos}
use Rattle.sets.specs.Sets.{in_set}
use Rattle.sets.proofs.Members.{in_set_empty, in_set_zero, in_set_half}

ltb_suc : (x n : ℕ) → ltb x n ≡ ltb (suc x) (suc n)
ltb_suc x n = go (dec_lt x n)
  where
    go : Dec (x < n) → ltb x n ≡ ltb (suc x) (suc n)
    go (yes h) = lt-ltb x n h ∙ sym (lt-ltb (suc x) (suc n) (omega arith))
    go (no h) = le-ltb x n (omega arith) ∙ sym (le-ltb (suc x) (suc n) (omega arith))

pub in_set_all : (n x : ℕ) → in_set (2 ^ n - 1) x ≡ ltb x n
in_set_all zero x = in_set_empty x ∙ sym (le-ltb x 0 (omega arith))
in_set_all (suc n) zero =
    let e : (2 ^ suc n - 1) % 2 ≡ 1 = rw pow-suc (omega (arith, pow_pos n)) in
    rw (in_set_zero, e) (sym (lt-ltb 0 (suc n) (omega arith)))
in_set_all (suc n) (suc x) =
    let e : (2 ^ suc n - 1) / 2 ≡ 2 ^ n - 1 = rw pow-suc (omega (arith, pow_pos n)) in
    rw (in_set_half, e) (in_set_all n x ∙ ltb_suc x n)
