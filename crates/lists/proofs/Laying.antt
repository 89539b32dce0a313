-- A result laid into a lent list: entry by entry to the front, if the capacity is enough.
use mathlib.Core.Path.{◌≡◌, refl}
use mathlib.Core.List.{List, ◌++◌}
use Prim.Native.Nat.{ℕ, ◌-◌, ◌<◌, ◌≤◌}
use native.Mathlib.Omega.{arith}
use borrow.Author.Tests.{le-leb, lt-leb}
use mathlib.Core.Option.{none}
use lib.ListN.{length, take, drop, replicate, length-append, length-drop}
use lib.Seq.{take_at, length-take-le}
use Rattle.planning.specs.Basics.{check, refuse, answer}
use Rattle.planning.specs.Calls.{lent, capacity, room_check}
use Rattle.lists.specs.Lent.{laid}

pub capacity_le : (n : ℕ) → (capacity n ≤ n) × (capacity n ≤ 32768)
unfolding capacity
capacity_le n = (omega arith, omega arith)

-- a result within the capacity has its place in front
pub front_long : (n m : ℕ) (d : List ℕ) → m ≡ capacity (length d) → n ≤ m → length (take n d) ≡ n
front_long n m d e h = length-take-le n d (omega (arith, e, capacity_le (length d)))

-- the room check decided, and the list that follows from it
module _ (n : ℕ) where
  pub room_fits : (m : ℕ) → n ≤ m → room_check n m ≡ none
  unfolding room_check check
  room_fits m h = rw (le-leb n m h) refl

  pub room_short : (m : ℕ) → m < n → room_check n m ≡ refuse 11 m
  unfolding room_check check
  room_short m h = rw (lt-leb n m h) refl

pub laid_short : (l : List ℕ) (p m : ℕ) → m ≡ capacity p → m < length l → replicate p 65535 ≡ laid p l
unfolding laid lent answer
laid_short l p m e h = rw (room_short (length l) (capacity p) (omega arith)) refl

pub laid_whole : (l d : List ℕ) (m : ℕ) → m ≡ capacity (length d) → length l ≤ m → (e : List ℕ) → e ≡ l ++ drop (length l) d
    → take (length l) e ++ replicate (length e - length l) 65535 ≡ laid (length d) l
unfolding laid lent answer
laid_whole l d m c h e q =
    let n : length e ≡ length d = rw (q, length-append l (drop (length l) d), length-drop (length l) d) (omega (arith, capacity_le (length d))) in
    rw (room_fits (length l) (capacity (length d)) (omega arith), n, q, take_at l (drop (length l) d) (length l) refl) refl
