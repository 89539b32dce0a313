-- Behind place k all is x; where k is behind the end nothing changes.
use mathlib.Core.Path.{◌≡◌, refl}
use mathlib.Core.List.{List, ◌++◌, append-nil}
use Prim.Native.Nat.{ℕ, ◌-◌, ◌≤◌}
use native.Mathlib.Omega.{arith}
use borrow.Rule.Slice.PartMut.{put_mid}
use lib.ListN.{length, take, drop, replicate, length-drop, drop_of_length-le}
use lib.Seq.{length-take-le}
use Rattle.lists.proofs.fill_from.Goals as goal

part_length : {A : Type 0} (d : List A) (k : ℕ) → length (take (length d - k) (drop k d)) ≡ length d - k
part_length d k = length-take-le (length d - k) (drop k d) (omega (arith, length-drop k d))

put_rest : {A : Type 0} (d l : List A) (k n : ℕ) (x : A) → l ≡ replicate n x → n ≡ length d - k → put_mid k (length d - k) d l ≡ take k d ++ replicate (length d - k) x
put_rest d l k n x e q =
    let b : length (drop k d) ≤ length d - k = omega (arith, length-drop k d) in
    rw (drop_of_length-le (drop k d) b, append-nil l, e, q) refl

pub returns-then-k-d : goal.returns-then-k-d
returns-then-k-d g c = put_rest _ _ _ _ _ (c.fill.ensures.after c.requires.same) (part_length _ _)
