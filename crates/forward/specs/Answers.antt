-- The forward run's answer, and what the call comes to for a task.
use Rattle.std.specs.Prelude.{List, [], ◌∷◌, ℕ, length, Result}
use Rattle.planning.specs.Basics.{in_order, Answer, answer}
use Rattle.planning.specs.Record.{Task}
use Rattle.planning.specs.Relaxed.{forward_run, facts_reached}
use Rattle.planning.specs.Calls.{Forward, capacity, room_check, goals_check, lent}
use Rattle.answers.specs.Answers.{answer_by}
use Rattle.answers.specs.declared.Refusal.{Refusal}
use Rattle.forward.specs.declared.Run.{Run}

abbrev pub told_of : Run → Forward
told_of r = record { steps = r.steps; reached = r.reached }

abbrev pub found_of : Result Run Refusal → Answer Forward
found_of = answer_by told_of

-- what is left to check once the record is accepted: that there is a plan, and that the list l has room in one of n entries
unfoldable pub called : {A : Type 0} → Task → List ℕ → ℕ → A → Answer A
called t l n a = answer (in_order (goals_check t ∷ room_check (length l) (capacity n) ∷ [])) a

unfoldable pub forward_of : Task → ℕ → Answer Forward
forward_of t n = called t (forward_run t) n (record { steps = length (forward_run t); reached = facts_reached t })

unfoldable pub forward_in : Task → ℕ → List ℕ
forward_in t n = lent (forward_of t n) n (forward_run t)
