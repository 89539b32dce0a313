-- Ways along arcs, through ever more variables.
use Rattle.std.specs.Prelude.{◌≡◌, Bool, true, ◌||◌, ◌&&◌, ℕ, zero, suc, ◌<◌}

-- the ways of s, and those that are one way to k and one from k
unfoldable pub through : ℕ → (ℕ → ℕ → Bool) → ℕ → ℕ → Bool
through k s u v = s u v || (s u k && s k v)

-- the ways along arcs of s whose inner variables are below k
unfoldable pub via : (ℕ → ℕ → Bool) → ℕ → ℕ → ℕ → Bool
via s zero = s
via s (suc k) = through k (via s k)

-- arcs start below n only
abbrev pub StartBelow : ℕ → (ℕ → ℕ → Bool) → Type 0
StartBelow n s = (u v : ℕ) → s u v ≡ true → u < n
