-- From the answers of the forward run and of the relaxed plan to the first two lines.
use Prim.Native.Nat.{ℕ}
use mathlib.Core.Path.{◌≡◌, refl}
use mathlib.Core.List.{List, [], ◌∷◌}
use lib.ListN.{length, take}
use Rattle.planning.specs.Calls.{forward_call, relax_call, relax_list}
use Rattle.planning.specs.Listing.{line, reached_word, relaxed_word}
use Rattle.text.specs.Put.{Put}
use Rattle.text.proofs.Texts.{put_then}
use Rattle.lines.specs.Answers.{facts_in, steps_in, kept_in, runs_text}

-- the first two lines; the list keeps its length
pub put_runs : {o o' o'' : List ℕ} {e e' : ℕ} (s : List ℕ) (n m f k : ℕ) (l t : List ℕ) → m ≡ n → f ≡ facts_in (forward_call s n) → k ≡ steps_in (relax_call s m)
    → l ≡ relax_list s m → t ≡ take k l → Put o 0 (line reached_word (f ∷ [])) o' e → Put o' e (line relaxed_word (length t ∷ t)) o'' e' → Put o 0 (runs_text s n) o'' e'
unfolding runs_text kept_in
put_runs s n m f k l t em ef ek el et P Q = put_then (rw (et, ef, ek, el, em) refl) P Q
