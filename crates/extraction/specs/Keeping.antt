-- The relaxed plan on the way: the run is gone through from its last action, the kept ones stand at the end of a list, and the
-- actions that first reached a needed fact are a set.
use Rattle.std.specs.Prelude.{◌≡◌, Bool, true, ◌||◌, List, ℕ, ◌+◌, ◌*◌, ◌<◌, ◌≤◌, length, get_or, take, drop}
use Rattle.std.proofs.Math.Option.{Option, some}
use Rattle.planning.specs.Record.{Fact, Task}
use Rattle.planning.specs.Runs.{act, initial, goals}
use Rattle.planning.specs.Relaxed.{forward_run, first_achiever, reached_needed, keep}
use Rattle.sets.specs.Sets.{listed}

-- action i first reached one of the facts
unfoldable pub wants : (ℕ → ℕ → Option ℕ) → List Fact → ℕ → Bool
wants by fs i = reached_needed by (λ v d. true) i fs

-- the first achievers as the list has them; 65,535, for none, is the number of no action
unfoldable pub by_of : List ℕ → ℕ → ℕ → Option ℕ
by_of first v d = some (get_or first (64 * v + d) 0)

-- the set of actions is f; and the actions f joined the set
pub record Wanted (f : ℕ → Bool) (set : List ℕ) : Type 0 where
  pub long : length set ≡ 16
  pub are : (i : ℕ) → i < 1024 → listed set i ≡ f i

abbrev pub Joined : (ℕ → Bool) → List ℕ → List ℕ → Type 0
Joined f before after = Wanted (λ i. f i || listed before i) after

-- of the run from place k on, the kept actions stand in the list from place m on, and those that first reached a fact needed by these or
-- a goal are the set; before place k the list is the run
pub record Keeping (t : Task) (run : List ℕ) (n : ℕ) (wanted kept : List ℕ) (k m : ℕ) : Type 0 where
  pub within : k ≤ n
  pub room : 1024 + k ≤ n + m
  pub end : m ≤ 1024
  pub long : length kept ≡ 1024
  pub unread : take k kept ≡ take k run
  pub kept_are : (keep (act t) (first_achiever (act t) (forward_run t) (initial t)) (goals t) (drop k (forward_run t))).actions' ≡ drop m kept
  pub wanted_are : let by = first_achiever (act t) (forward_run t) (initial t) in
      Wanted (λ i. reached_needed by (keep (act t) by (goals t) (drop k (forward_run t))).needed i (act t i).eff) wanted
