-- No refusal has the number 0, so the number that C gets is 0 only for success.
use mathlib.Core.Bool.{Bool, true, false}
use mathlib.Core.List.{List, [], ◌∷◌, ◌++◌}
use mathlib.Core.Option.{Option, none, some}
use mathlib.Core.Path.{◌≡◌, ap}
use Prim.Native.Nat.{ℕ, zero, suc, ◌+◌, ◌<◌}
use native.Mathlib.Omega.{arith}
use Rattle.planning.specs.Basics.{Check, check, refuse, and_then, in_order, refused, refuse_at}
use Rattle.planning.specs.Calls.{length_check, room_check, write_call, read_call}
use Rattle.planning.specs.Sheet.{Sheet, mark_width, sheet_field, steps_checks, sheet_checks, sheet_check, edition_in, steps_in}
use Rattle.answers.proofs.Stages.{answer_refused}

Numbered : Check → Type 0
Numbered k = (n p : ℕ) → k ≡ refuse n p → 0 < n

number_of : Check → ℕ
number_of none = 0
number_of (some r) = r.number

numbered_none : Numbered none
unfolding Numbered
numbered_none n p e = let u : ◌≡◌ {A = ℕ} 0 1 = cc in absurd (omega arith)

numbered_check : (b : Bool) (n p : ℕ) → 0 < n → Numbered (check b n p)
unfolding Numbered check number_of
numbered_check true n p h m q e = let u : ◌≡◌ {A = ℕ} 0 1 = cc in absurd (omega arith)
numbered_check false n p h m q e = let u : n ≡ m = ap number_of e in omega arith

numbered_at : (n : ℕ) (o : Option ℕ) → 0 < n → Numbered (refuse_at n o)
unfolding Numbered refuse_at number_of
numbered_at n none h m q e = let u : ◌≡◌ {A = ℕ} 0 1 = cc in absurd (omega arith)
numbered_at n (some i) h m q e = let u : n ≡ m = ap number_of e in omega arith

numbered_cons : (k : Check) (ks : List Check) → Numbered k → Numbered (in_order ks) → Numbered (in_order (k ∷ ks))
unfolding Numbered in_order and_then
numbered_cons none ks h g n p e = g n p e
numbered_cons (some r) ks h g n p e = h n p e

numbered_nil : Numbered (in_order [])
unfolding in_order
numbered_nil = numbered_none

numbered_field : (s : List ℕ) (p w : ℕ) → Numbered (sheet_field s p w)
unfolding sheet_field
numbered_field s p w = numbered_check _ 12 p (omega arith)

numbered_steps : (s : List ℕ) (w p n : ℕ) (ks : List Check) → Numbered (in_order ks) → Numbered (in_order (steps_checks s w p n ++ ks))
unfolding steps_checks
numbered_steps s w p zero ks g = g
numbered_steps s w p (suc n) ks g =
    numbered_cons _ _ (numbered_field s p w) (numbered_cons _ _ (numbered_field s (p + w) 10) (numbered_steps s w (p + w + 10) n ks g))

numbered_sheet : (s : List ℕ) → Numbered (sheet_check s)
unfolding sheet_check sheet_checks
numbered_sheet s =
    numbered_cons _ _ (numbered_field s 0 4)
    (numbered_cons _ _ (numbered_check _ 12 0 (omega arith))
    (numbered_cons _ _ (numbered_field s 4 1)
    (numbered_cons _ _ (numbered_field s 5 16)
    (numbered_cons _ _ (numbered_check _ 12 5 (omega arith))
    (numbered_cons _ _ (numbered_field s 21 32)
    (numbered_steps s (mark_width (edition_in s)) 53 (steps_in s) _ (numbered_cons _ _ (numbered_check _ 12 _ (omega arith)) numbered_nil)))))))

pub write_number : (x : Sheet) (n m p : ℕ) → write_call x n ≡ refused m p → 0 < m
unfolding write_call length_check room_check Numbered
write_number x n m p e =
    numbered_cons _ _ (numbered_check _ 13 32768 (omega arith)) (numbered_cons _ _ (numbered_at 13 _ (omega arith)) (numbered_cons _ _ (numbered_check _ 11 n (omega arith)) numbered_nil)) m p
    (answer_refused _ _ m p e)

pub read_number : (s : List ℕ) (n m k p : ℕ) → read_call s n m ≡ refused k p → 0 < k
unfolding read_call room_check Numbered
read_number s n m k p e =
    numbered_cons _ _ (numbered_sheet s) (numbered_cons _ _ (numbered_check _ 11 _ (omega arith)) numbered_nil) k p
    (answer_refused _ _ k p e)
