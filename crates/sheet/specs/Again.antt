-- 8.5: the round trip, as a promise states it.
use Rattle.std.specs.Prelude.{ℕ, ◌-◌, ◌≤◌, ◌≡◌, List, ◌++◌, length, replicate}
use Rattle.planning.specs.Basics.{done}
use Rattle.planning.specs.Sheet.{Sheet, edition_of, marks_of}
use Rattle.planning.specs.Calls.{read_call, read_list, read_marks, write_call, write_bytes}
use Rattle.sheet.specs.Answers.{heading}

-- reading the bytes s, into a list and a mark area of any lengths that have room, gives the sheet x, with its edition as 1 or 2 and its marks
-- as 0 and 1
pub record ReadsAs (s : List ℕ) (x : Sheet) : Type 0 where
  pub answer : (n m : ℕ) → length x.steps ≤ n → length x.steps ≤ m → read_call s n m ≡ done (heading (length x.steps) x.cost (edition_of x.edition) x.real)
  pub list : (n m : ℕ) → length x.steps ≤ n → length x.steps ≤ m → read_list s n m ≡ x.steps ++ replicate (n - length x.steps) 65535
  pub marks :
      (n m : ℕ) → length x.steps ≤ n → length x.steps ≤ m → read_marks s n m ≡ marks_of x.edition x.steps x.marks ++ replicate (m - length x.steps) 0

-- writing the sheet x, into any count of bytes that has room, gives the bytes s
pub record WritesAs (x : Sheet) (s : List ℕ) : Type 0 where
  pub answer : (n : ℕ) → length s ≤ n → write_call x n ≡ done (length s)
  pub bytes : (n : ℕ) → length s ≤ n → write_bytes x n ≡ s ++ replicate (n - length s) 0
