-- The number that C gets for each answer of the check.
use mathlib.Core.Path.{◌≡◌, refl, sym, ap, ◌∙◌}
use mathlib.Core.List.{List}
use Prim.Native.Nat.{ℕ}
use Rattle.std.specs.Prelude.{Result, Ok, Err}
use Rattle.planning.specs.Basics.{answer, refused, code}
use Rattle.planning.specs.Record.{record_check}
use Rattle.planning.specs.Calls.{check_call, check_code}
use Rattle.answers.specs.Answers.{number_of, check_of, answer_by}
use Rattle.answers.specs.declared.Refusal.{Refusal}

pub code_checked : (r : Result Unit Refusal) (s : List ℕ) → check_of r ≡ record_check s → code (answer_by (λ x. x) r) ≡ check_code s
unfolding check_code check_call answer code
code_checked (Ok u) s e = rw (← e) refl
code_checked (Err f) s e = rw (← e) refl

pub code_accepted : (r : Result Unit Refusal) (u : Unit) (s : List ℕ) → r ≡ Ok u → check_of r ≡ record_check s → 0 ≡ check_code s
unfolding code
code_accepted r u s h e = ap (λ x. code (answer_by (λ v. v) x)) (sym h) ∙ code_checked r s e

pub code_refused : (r : Result Unit Refusal) (f : Refusal) (s : List ℕ) → r ≡ Err f → check_of r ≡ record_check s → code {A = ℕ} (refused (number_of f.reason) f.place) ≡ check_code s
unfolding code
code_refused r f s h e = ap (λ x. code (answer_by (λ v. v) x)) (sym h) ∙ code_checked r s e
