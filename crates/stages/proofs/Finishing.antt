-- Moves for the goals: a slice that states them.
use mathlib.Core.Path.{◌≡◌}
use mathlib.Core.List.{List}
use Prim.Native.Nat.{ℕ}
use Rattle.planning.specs.Record.{Task}
use Rattle.planning.specs.Runs.{variables, count, goals}
use Rattle.laws.proofs.Facts.{look_some}
use Rattle.laws.proofs.Formed.{Formed, sorted_has, goals_sorted}
use Rattle.task.specs.Task.{facts_of}
use Rattle.task.proofs.Slices.{sorted_inside}
use Rattle.asking.specs.Asking.{Fitting}
use Rattle.stages.specs.Stages.{Wanted}

goals_fitting : (t : Task) → Formed t → Fitting t (goals t)
goals_fitting t F v d e = (sorted_has (variables t) (count t) 0 (goals t) (goals_sorted t F) v d (look_some (goals t) v d e)).val_below

pub goals_wanted : (t : Task) → Formed t → (facts : List ℕ) → facts_of facts ≡ goals t → Wanted t facts
goals_wanted t F facts e = record {
  inside = sorted_inside (variables t) (count t) facts 0 (rw e (goals_sorted t F));
  fitting = rw e (goals_fitting t F);
}
