-- A list that was lent for a result.
use Rattle.std.specs.Prelude.{List, ℕ, length}
use Rattle.planning.specs.Basics.{answer}
use Rattle.planning.specs.Calls.{capacity, room_check, lent}

-- a list of n entries with the result l in front, if its capacity is enough
unfoldable pub laid : ℕ → List ℕ → List ℕ
laid n l = lent {A = ℕ} (answer (room_check (length l) (capacity n)) 0) n l
