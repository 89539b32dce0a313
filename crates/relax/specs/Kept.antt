-- What the relaxed plan of a loaded task comes to.
use Rattle.std.specs.Prelude.{◌≡◌, true, false, List, ℕ, ◌≤◌, length, take, Result, Ok, Err}
use Rattle.planning.specs.Record.{Task}
use Rattle.planning.specs.Relaxed.{reaches_goals, facts_reached, relaxed_plan}
use Rattle.answers.specs.declared.Refusal.{Refusal}
use Rattle.answers.specs.declared.Reason.TheVariants.{NoPlan}

-- the relaxed plan in the front of a list of 1,024
pub record Front (t : Task) (plan : List ℕ) (n : ℕ) : Type 0 where
  pub list : take n plan ≡ relaxed_plan t
  pub steps : n ≡ length (relaxed_plan t)
  pub few : n ≤ 1024
  pub long : length plan ≡ 1024

pub record Found (t : Task) (plan : List ℕ) (n : ℕ) : Type 0 where
  pub solved : reaches_goals t ≡ true
  pub front : Front t plan n

-- 4.4: no plan
pub record Unfound (t : Task) (f : Refusal) : Type 0 where
  pub unsolved : reaches_goals t ≡ false
  pub reason : f.reason ≡ NoPlan
  pub place' : f.place ≡ facts_reached t

abbrev pub KeptOf : Task → List ℕ → Result ℕ Refusal → Type 0
KeptOf t plan (Ok n) = Found t plan n
KeptOf t plan (Err f) = Unfound t f
