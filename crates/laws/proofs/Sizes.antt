-- How large the numbers of an accepted task are: facts, steps, cost, bits. A computation with them stays far below 2 ^ 32.
use Prim.Native.Nat.{ℕ, ◌+◌, ◌-◌, ◌*◌, ◌/◌, ◌≤◌, pred}
use mathlib.Core.Path.{◌≡◌}
use mathlib.Core.Bool.{◌&&◌}
use mathlib.Core.List.{List, [], ◌∷◌}
use mathlib.Core.Option.{none}
use lib.Dec.{T, eqb, eqb→eq}
use lib.ListN.{length}
use native.Mathlib.Omega.{arith}
use Rattle.planning.specs.Basics.{bits_at}
use Rattle.planning.specs.Record.{variable_bit, Task, variables_in, actions_in, ends_at, record_end, record_check}
use Rattle.planning.specs.Runs.{variables, count, facts_in, cost_of, cost_by}
use Rattle.planning.specs.Relaxed.{addable, forward_end, facts_reached}
use Rattle.planning.specs.Calls.{capacity, capacity_of}
use Rattle.laws.proofs.Tests.{and_l}
use Rattle.laws.proofs.Below.{total_max}
use Rattle.laws.proofs.Fields.{task_of_variables, task_of_actions, actions_end_le}
use Rattle.laws.proofs.Formed.{Formed, parts, formed_of}
use Rattle.laws.proofs.Forward.{size_le}

-- F is at most 64 × 63, and at most 64 × 64 facts are reached
pub addable_le : (t : Task) → Formed t → addable t ≤ 4032
unfolding addable
addable_le t F =
    let a = total_max (variables t) 63 (λ v. pred (count t v)) (λ v. omega (arith, F.count_min v, F.count_max v)) in
    omega (arith, F.variables_max)

pub facts_reached_le : (t : Task) → Formed t → facts_reached t ≤ 4096
unfolding facts_reached facts_in
facts_reached_le t F = omega (arith, F.variables_max, size_le (variables t) (count t) (forward_end t), total_max (variables t) 64 (count t) F.count_max)

pub cost_of_le : (t : Task) → Formed t → (l : List ℕ) → cost_of t l ≤ 65535 * length l
unfolding cost_by
cost_of_le t F [] = omega arith
cost_of_le t F (i ∷ l) = omega (arith, F.cost_below i, cost_of_le t F l)

pub capacity_of_le : (n w m : ℕ) → (capacity_of n w m ≤ n) × (capacity_of n w m ≤ w) × (capacity_of n w m ≤ m) × (capacity_of n w m ≤ 32768)
unfolding capacity_of capacity
capacity_of_le n w m = (omega arith, omega arith, omega arith, omega arith)

-- The longest record (13): 22 bits, 20 for each of 64 variables, 384 for each of 1,024 actions
pub record_length : (s : List ℕ) → record_check s ≡ none → length s ≤ 49315
unfolding ends_at record_end
record_length s e =
    let F = formed_of s e in
    let t : T (eqb (length s) ((record_end s + 7) / 8) && eqb (bits_at s (record_end s) (8 * length s - record_end s)) 0) = (parts s e).ends in
    let q = eqb→eq (length s) ((record_end s + 7) / 8) (search and_l) in
    omega (arith, F.variables_max, F.actions_max, task_of_variables s, task_of_actions s, actions_end_le s (variable_bit (variables_in s)) (actions_in s))
