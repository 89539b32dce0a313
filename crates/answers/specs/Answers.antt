-- Number, place and value for each case of the code's answers.
use Rattle.std.specs.Prelude.{ℕ, Result, Ok, Err}
use Rattle.std.proofs.Math.Option.{none}
use Rattle.planning.specs.Basics.{Check, refuse, Answer, refused, done}
use Rattle.answers.specs.declared.Reason.{Reason}
use Rattle.answers.specs.declared.Reason.TheVariants.{Cut, Edition, Size, Value, Variable, End, Cycle, NoReturn, Entry, NoPlan, Room, Sheet, Length}
use Rattle.answers.specs.declared.Refusal.{Refusal}

-- 9.5: the number of each row
abbrev pub number_of : Reason → ℕ
number_of Cut = 1
number_of Edition = 2
number_of Size = 3
number_of Value = 4
number_of Variable = 5
number_of End = 6
number_of Cycle = 7
number_of NoReturn = 8
number_of Entry = 9
number_of NoPlan = 10
number_of Room = 11
number_of Sheet = 12
number_of Length = 13

abbrev pub check_of : Result Unit Refusal → Check
check_of (Ok u) = none
check_of (Err f) = refuse (number_of f.reason) f.place

-- 9.3: a result as the definitions have it, or number and place
abbrev pub answer_by : {A B : Type 0} → (A → B) → Result A Refusal → Answer B
answer_by g (Ok a) = done (g a)
answer_by g (Err f) = refused (number_of f.reason) f.place

abbrev pub value_of : Result ℕ Refusal → Answer ℕ
value_of = answer_by (λ v. v)
