-- One way for both calls: the relaxed plan to repair is the task's own, or the caller's list; then come its checks and its repair.
use Rattle.std.specs.Prelude.{◌≡◌, Bool, true, false, List, [], ◌∷◌, ◌++◌, ℕ, ◌≤◌, length, take, Result, Ok, Err}
use Rattle.planning.specs.Basics.{Check, and_then, in_order, answer}
use Rattle.planning.specs.Record.{Task, task_of, record_check}
use Rattle.planning.specs.Relaxed.{relaxed_plan}
use Rattle.planning.specs.Painting.{acyclic_check, return_check}
use Rattle.planning.specs.Repair.{repaired, marks}
use Rattle.planning.specs.Calls.{length_check, relaxed_check, goals_check, room_check, planned}
use Rattle.answers.specs.declared.Refusal.{Refusal}
use Rattle.answers.specs.declared.Plan.{Plan}
use Rattle.answers.specs.Plans.{answer_of}

-- the relaxed plan to repair: the list l where it is given, else the task's own; and what is asked of it
unfoldable pub source : Bool → Task → List ℕ → List ℕ
source true t l = l
source false t l = relaxed_plan t

unfoldable pub source_check : Bool → Task → List ℕ → Check
source_check true t l = in_order (length_check l ∷ relaxed_check t l ∷ [])
source_check false t l = goals_check t

unfoldable pub painting_check : Task → Check
painting_check t = and_then (acyclic_check t) (return_check t)

-- after success the list l stands in the front of the plan list
abbrev pub InFront : List ℕ → List ℕ → Result Plan Refusal → Type 0
InFront l plan (Ok p) = (p.steps ≤ length plan) × (take p.steps plan ≡ l)
InFront l plan (Err f) = Unit {0}

-- the answer r by the checks cs, then 11 in the given room, and the list k repaired in the front of the plan list, its marks in that of the area
pub record Drafted (t : Task) (cs : List Check) (k : List ℕ) (room : ℕ) (plan area : List ℕ) (r : Result Plan Refusal) : Type 0 where
  pub answer' : answer_of r ≡ answer (in_order (cs ++ (room_check (length (repaired t k)) room ∷ []))) (planned t k)
  pub front : InFront (repaired t k) plan r
  pub marked : InFront (marks t k) area r

-- the same of a call: with the list l where `given`, from the checks of the relaxed plan on, from the painting on, from the record on
abbrev pub Sourced : Bool → Task → List ℕ → ℕ → List ℕ → List ℕ → Result Plan Refusal → Type 0
Sourced given t l room = Drafted t (source_check given t l ∷ []) (source given t l) room

abbrev pub Painted : Bool → Task → List ℕ → ℕ → List ℕ → List ℕ → Result Plan Refusal → Type 0
Painted given t l room = Drafted t (painting_check t ∷ source_check given t l ∷ []) (source given t l) room

abbrev pub Called : Bool → List ℕ → List ℕ → ℕ → List ℕ → List ℕ → Result Plan Refusal → Type 0
Called given s l room = Drafted (task_of s) (record_check s ∷ painting_check (task_of s) ∷ source_check given (task_of s) l ∷ []) (source given (task_of s) l) room
