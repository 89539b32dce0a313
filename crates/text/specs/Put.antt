-- Text written into bytes.
use Rattle.std.specs.Prelude.{ℕ, ◌+◌, ◌≡◌, List, ◌++◌, length, take}

-- the text stands in ys up to place e, behind the first p bytes of xs
pub record Put (xs : List ℕ) (p : ℕ) (text ys : List ℕ) (e : ℕ) : Type 0 where
  pub ends : e ≡ p + length text
  pub front : take e ys ≡ take p xs ++ text
