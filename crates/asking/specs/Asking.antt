-- What an entry asks, and what is told of the list that was written.
use Rattle.std.specs.Prelude.{◌≡◌, List, ◌++◌, ℕ, ◌+◌, ◌<◌, ◌≤◌, length, take, Option, None, Some}
use Rattle.std.proofs.Math.Option as math
use Rattle.planning.specs.Record.{Fact, Task}
use Rattle.planning.specs.Runs.{look, count}
use Rattle.asking.specs.declared.Inserted.{Inserted}

-- each value that is asked is one of its variable
abbrev pub Fitting : Task → List Fact → Type 0
Fitting t fs = (v d : ℕ) → look fs v ≡ math.some d → d < count t v

-- the value that is asked is one of its variable
abbrev pub Fits : ℕ → Option ℕ → Type 0
Fits n None = Unit {0}
Fits n (Some d) = d < n

-- the list l was written into d₀ from place a on, and d is left; or it does not fit
abbrev pub Put : List ℕ → List ℕ → ℕ → List ℕ → Option ℕ → Type 0
Put d₀ d a l (Some e) = (e ≡ a + length l) × (e ≤ length d₀) × (take e d ≡ take a d₀ ++ l)
Put d₀ d a l None = length d₀ < a + length l

-- what was written, without the searches; where it fits, they are n
abbrev pub written_in : Option Inserted → Option ℕ
written_in (Some w) = Some w.end
written_in None = None

abbrev pub Searched : ℕ → Option Inserted → Type 0
Searched n (Some w) = w.searches ≡ n
Searched n None = Unit {0}
