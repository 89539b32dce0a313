-- The text of a listing (10), in ASCII: from a record's bytes to the bytes that the listing program prints.
use Rattle.std.specs.Prelude.{ℕ, zero, suc, ◌+◌, ◌/◌, ◌%◌, Bool, true, false, List, [], ◌∷◌, ◌++◌, ltb, length}
use Rattle.planning.specs.Basics.{Answer, refused, done}
use Rattle.planning.specs.Record.{Task, task_of}
use Rattle.planning.specs.Relaxed.{facts_reached, relaxed_plan}
use Rattle.planning.specs.Calls.{Planned, plan_of, plan_call, runnable}

-- 10.2: the decimal digits of n, no zero in front, where k are enough
unfoldable pub digits_upto : ℕ → ℕ → List ℕ
digits_upto zero n = []
digits_upto (suc k) n = elim (ltb n 10) [ true ↦ (48 + n) ∷ [] | false ↦ digits_upto k (n / 10) ++ ((48 + n % 10) ∷ []) ]

-- a number n has no more than n + 1 digits
unfoldable pub decimal : ℕ → List ℕ
decimal n = digits_upto (suc n) n

-- 10.2: a space before each number
unfoldable pub numbers : List ℕ → List ℕ
numbers [] = []
numbers (n ∷ l) = (32 ∷ decimal n) ++ numbers l

-- 10.2: a line, its word, its numbers and the line feed
unfoldable pub line : List ℕ → List ℕ → List ℕ
line word l = word ++ (numbers l ++ (10 ∷ []))

-- the words
abbrev pub reached_word : List ℕ
reached_word = 114 ∷ 101 ∷ 97 ∷ 99 ∷ 104 ∷ 101 ∷ 100 ∷ []

abbrev pub relaxed_word : List ℕ
relaxed_word = 114 ∷ 101 ∷ 108 ∷ 97 ∷ 120 ∷ 101 ∷ 100 ∷ []

abbrev pub plan_word : List ℕ
plan_word = 112 ∷ 108 ∷ 97 ∷ 110 ∷ []

abbrev pub real_word : List ℕ
real_word = 114 ∷ 101 ∷ 97 ∷ 108 ∷ []

abbrev pub unreal_word : List ℕ
unreal_word = 117 ∷ 110 ∷ 114 ∷ 101 ∷ 97 ∷ 108 ∷ []

abbrev pub refused_word : List ℕ
refused_word = 114 ∷ 101 ∷ 102 ∷ 117 ∷ 115 ∷ 101 ∷ 100 ∷ []

unfoldable pub verdict_word : Bool → List ℕ
verdict_word true = real_word
verdict_word false = unreal_word

-- 10.2 and 10.3: the lines for an answer of the planner to the task t
unfoldable pub listing : Task → Answer Planned → List ℕ
listing t (refused n p) = line refused_word (n ∷ p ∷ [])
listing t (done p) =
    line reached_word (facts_reached t ∷ [])
    ++ (line relaxed_word (length (relaxed_plan t) ∷ relaxed_plan t)
    ++ (line plan_word (p.steps ∷ p.cost ∷ plan_of t)
    ++ line (verdict_word p.real') (length (runnable (done p) (plan_of t)) ∷ [])))

-- 10.1
unfoldable pub listing_of : List ℕ → List ℕ
listing_of s = listing (task_of s) (plan_call s 16384 16384 16384)
