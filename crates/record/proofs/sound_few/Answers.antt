-- The facts of a window, one more at each test that passes (`few_more`); one that is not sound stops all (`few_stops`).
use Rattle.record.proofs.Laws.{few_none, few_more, few_stops, few_last, few_as}
use Rattle.record.specs.Stages.{Few, Sound}
use mathlib.Core.List.{List}
use mathlib.Core.Path.{◌≡◌, refl}
use Prim.Native.Nat.{ℕ, ◌+◌, ◌/◌, ◌%◌, ◌^◌}
use native.Mathlib.Omega.{arith}
use Rattle.record.proofs.sound_few.Goals as goal

-- the first fact, and each that follows
module _ (w low : ℕ) (counts : List ℕ) (a : ℕ) (A : Sound counts (w / 2 ^ 52 % 4096) low × (a ≡ w / 2 ^ 52 % 4096 / 64 + 1)) where
  one : Few w 1 low counts a
  one = few_more _ _ 0 _ _ _ _ _ refl (omega arith) (few_none _ _ _) refl A

  two : (b : ℕ) → Sound counts (w / 2 ^ 40 % 4096) a × (b ≡ w / 2 ^ 40 % 4096 / 64 + 1) → Few w 2 low counts b
  two b B = few_more _ _ 1 _ _ _ _ _ refl (omega arith) one refl B

  three : (b c : ℕ) → Sound counts (w / 2 ^ 40 % 4096) a × (b ≡ w / 2 ^ 40 % 4096 / 64 + 1) → Sound counts (w / 2 ^ 28 % 4096) b × (c ≡ w / 2 ^ 28 % 4096 / 64 + 1) → Few w 3 low counts c
  three b c B C = few_more _ _ 2 _ _ _ _ _ refl (omega arith) (two b B) refl C

pub returns-in_err-a : goal.returns-in_err-a
returns-in_err-a c = rw c.from_residual.ensures (few_stops _ _ 0 _ _ _ _ (omega arith) (omega arith) (few_none _ _ _) refl c.in_err-a.ensures)

pub returns-then-n-eq1 : goal.returns-then-n-eq1
returns-then-n-eq1 c = few_as _ _ _ _ _ _ c.if-n-eq1.true (one _ _ _ _ c.in_ok-a.ensures)

pub returns-in_err-b : goal.returns-in_err-b
returns-in_err-b c =
    rw c.from_residual-in_err-b.ensures (few_stops _ _ 1 _ _ _ _ (omega arith) (omega arith) (one _ _ _ _ c.in_ok-a.ensures) refl c.in_err-b.ensures)

pub returns-then-n-eq2 : goal.returns-then-n-eq2
returns-then-n-eq2 c = few_as _ _ _ _ _ _ c.if-n-eq2.true (two _ _ _ _ c.in_ok-a.ensures _ c.in_ok-b.ensures)

pub returns-in_err-c : goal.returns-in_err-c
returns-in_err-c c =
    rw c.from_residual-in_err-c.ensures (few_stops _ _ 2 _ _ _ _ (omega arith) (omega arith) (two _ _ _ _ c.in_ok-a.ensures _ c.in_ok-b.ensures) refl c.in_err-c.ensures)

pub returns-then-n-eq3 : goal.returns-then-n-eq3
returns-then-n-eq3 c = few_as _ _ _ _ _ _ c.if-n-eq3.true (three _ _ _ _ c.in_ok-a.ensures _ _ c.in_ok-b.ensures c.in_ok-c.ensures)

pub returns : goal.returns
returns c =
    few_last _ _ 3 _ _ _ _ _ (omega arith) (omega arith) (three _ _ _ _ c.in_ok-a.ensures _ _ c.in_ok-b.ensures c.in_ok-c.ensures) refl c.sound-4.ensures
