-- What the functions of the check ask of the counts of values and of a window, and what their answers say.
use Rattle.std.specs.Prelude.{◌≡◌, List, [], ◌∷◌, ℕ, ◌+◌, ◌*◌, ◌/◌, ◌%◌, ◌≤◌, ◌<◌, length, get_or}
use Rattle.std.proofs.Math.Option.{none}
use Rattle.planning.specs.Basics.{Check, check, in_order}
use Rattle.planning.specs.Record.{variables_in, count_in}
use Rattle.planning.specs.Record.{facts_checks, ends_at, record_end}
use Rattle.bits.specs.Windows.{Leading}
use denote.Ref.{Bor}

-- the list holds the count of values of each of the first n variables, and 0 behind them
pub record Counts (s counts : List ℕ) (n : ℕ) : Type 0 where
  pub right : (v : ℕ) → v < n → get_or counts v 0 ≡ count_in s v
  pub behind : (v : ℕ) → n ≤ v → get_or counts v 0 ≡ 0

-- the count of variables, and their counts of values
abbrev pub Known : List ℕ → ℕ → List ℕ → Type 0
Known s n counts = (n ≡ variables_in s) × (n ≤ 64) × Counts s counts n

-- what the quick test of a fact of 12 bits tests
pub record Sound (counts : List ℕ) (fact low : ℕ) : Type 0 where
  pub rises : low ≤ fact / 64
  pub value : fact % 64 < get_or counts (fact / 64) 0

-- the first n facts of the window w pass their checks wherever the window stands, and the facts behind start at variable r
pub record Few (w n low : ℕ) (counts : List ℕ) (r : ℕ) : Type 0 where
  pub passes :
      (s : List ℕ) (p m : ℕ) → Leading s p w → p + 12 * n ≤ 8 * length s → Counts s counts (variables_in s)
      → in_order (facts_checks s p low (n + m)) ≡ in_order (facts_checks s (p + 12 * n) r m)

-- the first n facts of the window w do not all pass, wherever the window stands
pub record Unsound (w n low : ℕ) (counts : List ℕ) : Type 0 where
  pub refuses :
      (s : List ℕ) (p m : ℕ) → Leading s p w → p + 12 * n ≤ 8 * length s → Counts s counts (variables_in s)
      → in_order (facts_checks s p low (n + m)) ≡ none → ⊥

-- a function that gives the window at each place where four of the n facts from bit p on may start
pub record Windows {W : Type 0} (pre : W → Bor (List ℕ) → ℕ → Type 0) (post : W → Bor (List ℕ) → ℕ → ℕ → Type 0) (window : W) (s : List ℕ) (p n : ℕ) : Type 0 where
  pub callable : (b : Bor (List ℕ)) (at : ℕ) → b.now ≡ s → p ≤ at → at < p + 12 * n → pre window b at
  pub leads : (b : Bor (List ℕ)) (at w : ℕ) → b.now ≡ s → p ≤ at → at < p + 12 * n → post window b at w → Leading s at w

-- what the quick test of a header's 22 bits tests
pub record SoundHeader (b : ℕ) : Type 0 where
  pub edition : b / 262144 ≡ 1
  pub variables_min : 1 ≤ b / 2048 % 128
  pub variables_max : b / 2048 % 128 ≤ 64
  pub actions_max : b % 2048 ≤ 1024

-- what the quick test of a variable's 20 bits tests
pub record SoundVariable (b : ℕ) : Type 0 where
  pub initial : b / 128 % 64 ≤ b / 16384
  pub goal : b % 64 ≤ b / 16384 * (b / 64 % 2)

unfoldable pub from_end : List ℕ → List Check
from_end s = check (ends_at s (record_end s)) 6 (record_end s) ∷ []
