-- The numbers of a list, one after another.
use Prim.Native.Nat.{ℕ, ◌+◌, ◌<◌}
use mathlib.Core.Path.{◌≡◌, sym, ap, ◌∙◌}
use mathlib.Core.List.{List, [], ◌∷◌, ◌++◌}
use native.Mathlib.Numerals.{add-one}
use lib.ListN.{length, get_or, take}
use lib.Seq.{take-suc}
use Rattle.planning.specs.Listing.{numbers}
use Rattle.text.specs.Put.{Put}
use Rattle.text.proofs.Texts.{put_none, put_then, numbers-++}

module _ (old list : List ℕ) (at : ℕ) where
  pub list_start : Put old at (numbers (take 0 list)) old at
  unfolding numbers
  list_start = put_none old at

  pub list_turn : (new newer : List ℕ) (k x e f : ℕ) → k < length list → x ≡ get_or list k 0 → Put old at (numbers (take k list)) new e → Put new e (numbers (x ∷ [])) newer f
      → Put old at (numbers (take (k + 1) list)) newer f
  list_turn new newer k x e f l g P Q =
      put_then (numbers-++ (take k list) (x ∷ []) ∙ ap numbers (ap (λ y. take k list ++ (y ∷ [])) g ∙ sym (take-suc list k 0 l) ∙ ap (λ n. take n list) (sym (add-one k)))) P Q
