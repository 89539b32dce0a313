-- 7.3 and 9.2: what the repair answers, and where its list and its marks stand.
use Rattle.std.specs.Prelude.{◌≡◌, List, ℕ, ◌≤◌, length, take, Result}
use Rattle.planning.specs.Basics.{answer}
use Rattle.planning.specs.Record.{Task}
use Rattle.planning.specs.Repair.{repaired, marks}
use Rattle.planning.specs.Calls.{capacity_of, planned, room_check}
use Rattle.answers.specs.declared.Plan.{Plan}
use Rattle.answers.specs.declared.Refusal.{Refusal}
use Rattle.answers.specs.Plans.{answer_of}

-- what both lists and the mark area lend
abbrev pub room_in : List ℕ → List ℕ → List ℕ → ℕ
room_in plan work area = capacity_of (length plan) (length work) (length area)

-- the answer r for the repair of the list k, if there is room for it, or 11; where it fits it fills the front of d, and its marks that of e
pub record Held (t : Task) (k d e : List ℕ) (room : ℕ) (r : Result Plan Refusal) : Type 0 where
  pub says : answer_of r ≡ answer (room_check (length (repaired t k)) room) (planned t k)
  pub fills : length (repaired t k) ≤ room → take (length (repaired t k)) d ≡ repaired t k
  pub marked : length (repaired t k) ≤ room → take (length (repaired t k)) e ≡ marks t k
