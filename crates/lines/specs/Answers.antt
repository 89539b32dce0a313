-- What the listing takes from the answers of the calls.
use Rattle.std.specs.Prelude.{ℕ, List, [], ◌∷◌, ◌++◌, length, take}
use Rattle.planning.specs.Basics.{Answer, refused, done}
use Rattle.planning.specs.Calls.{Forward, forward_call, relax_call, relax_list}
use Rattle.planning.specs.Listing.{line, reached_word, relaxed_word}

-- the facts reached, and the steps; 0 after a refusal
abbrev pub facts_in : Answer Forward → ℕ
facts_in (refused n p) = 0
facts_in (done f) = f.reached

abbrev pub steps_in : Answer ℕ → ℕ
steps_in (refused n p) = 0
steps_in (done n) = n

-- the first two lines, by the calls with a list of n entries
unfoldable pub kept_in : List ℕ → ℕ → List ℕ
kept_in s n = take (steps_in (relax_call s n)) (relax_list s n)

unfoldable pub runs_text : List ℕ → ℕ → List ℕ
runs_text s n = line reached_word (facts_in (forward_call s n) ∷ []) ++ line relaxed_word (length (kept_in s n) ∷ kept_in s n)
