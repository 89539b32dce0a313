-- What the call for a relaxed plan comes to for a task.
use Rattle.std.specs.Prelude.{List, ℕ, length}
use Rattle.planning.specs.Basics.{Answer}
use Rattle.planning.specs.Record.{Task}
use Rattle.planning.specs.Relaxed.{relaxed_plan}
use Rattle.planning.specs.Calls.{lent}
use Rattle.forward.specs.Answers.{called}

unfoldable pub relax_of : Task → ℕ → Answer ℕ
relax_of t n = called t (relaxed_plan t) n (length (relaxed_plan t))

unfoldable pub relax_in : Task → ℕ → List ℕ
relax_in t n = lent (relax_of t n) n (relaxed_plan t)
