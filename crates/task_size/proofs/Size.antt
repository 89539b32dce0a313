-- Bits and places go together: n actions take 24 bits each and 12 for each fact, so their facts, the end of the record and the
-- size of the loaded task are one count.
use mathlib.Core.Path.{◌≡◌, refl}
use mathlib.Core.Bool.{◌&&◌}
use mathlib.Core.List.{List}
use mathlib.Core.Option.{none}
use Prim.Native.Nat.{ℕ, zero, suc, ◌+◌, ◌-◌, ◌*◌, ◌/◌, ◌≤◌}
use native.Mathlib.Omega.{arith}
use lib.Dec.{T, eqb, eqb→eq}
use lib.ListN.{length, replicate, length-replicate}
use Rattle.planning.specs.Basics.{bits_at}
use Rattle.planning.specs.Record.{variable_bit, variables_in, actions_in, preconditions_in, effects_in, effects_from, action_end, actions_end, ends_at, record_end, record_check}
use Rattle.laws.proofs.Tests.{and_l}
use Rattle.laws.proofs.Fields.{bits_at_below, task_of_variables, task_of_actions}
use Rattle.laws.proofs.Formed.{parts, formed_of}
use Rattle.task_size.specs.Size.{facts_of, facts_from, task_size, RoomIn}

facts_of_le : (s : List ℕ) (p : ℕ) → facts_of s p ≤ 30
unfolding facts_of preconditions_in effects_in
facts_of_le s p = omega (arith, bits_at_below s (p + 16) 4, bits_at_below s (p + 20) 4)

pub action_end_is : (s : List ℕ) (p : ℕ) → action_end s p ≡ p + 24 + 12 * facts_of s p
unfolding action_end effects_from facts_of
action_end_is s p = omega arith

pub actions_end_is : (s : List ℕ) (p n : ℕ) → actions_end s p n ≡ p + 24 * n + 12 * facts_from s p n
unfolding actions_end facts_from
actions_end_is s p zero = omega arith
actions_end_is s p (suc n) = omega (arith, actions_end_is s (action_end s p) n, action_end_is s p)

-- one action more, at the end
pub actions_end_more : (s : List ℕ) (p n : ℕ) → actions_end s p (suc n) ≡ action_end s (actions_end s p n)
unfolding actions_end
actions_end_more s p zero = refl
actions_end_more s p (suc n) = actions_end_more s (action_end s p) n

pub facts_from_more : (s : List ℕ) (p n : ℕ) → facts_from s p (suc n) ≡ facts_from s p n + facts_of s (actions_end s p n)
unfolding facts_from actions_end
facts_from_more s p zero = omega arith
facts_from_more s p (suc n) = omega (arith, facts_from_more s (action_end s p) n)

pub facts_from_mono : (s : List ℕ) (p m n : ℕ) → m ≤ n → facts_from s p m ≤ facts_from s p n
unfolding facts_from
facts_from_mono s p zero n h = omega arith
facts_from_mono s p (suc m) zero h = absurd (omega arith)
facts_from_mono s p (suc m) (suc n) h = omega (arith, facts_from_mono s (action_end s p) m n (omega arith))

pub facts_from_le : (s : List ℕ) (p n : ℕ) → facts_from s p n ≤ 30 * n
unfolding facts_from
facts_from_le s p zero = omega arith
facts_from_le s p (suc n) = omega (arith, facts_of_le s p, facts_from_le s (action_end s p) n)

-- an accepted record
module _ (s : List ℕ) (e : record_check s ≡ none) where
  record_end_le : record_end s ≤ 8 * length s
  unfolding ends_at
  record_end_le =
      let t : T (eqb (length s) ((record_end s + 7) / 8) && eqb (bits_at s (record_end s) (8 * length s - record_end s)) 0) = (parts s e).ends in
      let q = eqb→eq (length s) ((record_end s + 7) / 8) (search and_l) in
      omega arith

  fields_le : variable_bit (variables_in s) + 24 * actions_in s + 12 * facts_from s (variable_bit (variables_in s)) (actions_in s) ≤ 8 * length s
  unfolding record_end
  fields_le = omega (arith, record_end_le, actions_end_is s (variable_bit (variables_in s)) (actions_in s))

  -- 40,260 numbers serve every record
  pub task_size_max : task_size s ≤ 40260
  unfolding task_size
  task_size_max =
      let F = formed_of s e in
      omega (arith, F.actions_max, task_of_actions s, F.variables_max, task_of_variables s, facts_from_le s (variable_bit (variables_in s)) (actions_in s))

  -- what bits are left behind the variables and the first 24 of each action bounds the facts
  pub task_size_bits : task_size s ≤ (16154 + 748 * variables_in s + 24 * actions_in s + 8 * length s) / 12
  unfolding task_size
  task_size_bits = omega (arith, fields_le)

-- the longest list has room for every record
pub room_long : (s : List ℕ) → RoomIn s (replicate 40260 0)
room_long s = let e = length-replicate {A = ℕ} 40260 0 in record { head = omega arith; enough = λ a. omega (arith, task_size_max s a) }
