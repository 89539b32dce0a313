-- The memo with no lead.
use Rattle.std.specs.Prelude.{◌≡◌, List, ℕ, ◌<◌, get_or}

-- no slot of the memo is marked
abbrev pub Blank : List ℕ → Type 0
Blank memo = (k : ℕ) → k < 64 → get_or memo k 0 ≡ 0
