-- The answers of writing (8.3) and reading (8.4) a sheet: number, place and values for each case.
use Rattle.std.specs.Prelude.{ℕ, ◌+◌, ◌-◌, ◌*◌, ◌/◌, ◌%◌, min, Bool, List, [], ◌∷◌, ◌++◌, Result, take}
use Rattle.planning.specs.Basics.{Check, check, in_order, Answer, refused}
use Rattle.planning.specs.Record.{ends_at}
use Rattle.planning.specs.Sheet.{Sheet, sheet_of, mark_width, sheet_end, edition_in, steps_in, steps_checks}
use Rattle.planning.specs.Calls.{Read}
use Rattle.answers.specs.Answers.{answer_by}
use Rattle.answers.specs.declared.Refusal.{Refusal}
use Rattle.sheet.specs.declared.Heading.{Heading}

-- the sheet of an edition, a list, marks, a cost and a verdict
abbrev pub sheet : ℕ → List ℕ → List ℕ → ℕ → Bool → Sheet
sheet e l ms c b = record { edition = e; steps = l; marks = ms; cost = c; real = b }

abbrev pub heading : ℕ → ℕ → ℕ → Bool → Read
heading n c e b = record { steps = n; cost = c; edition = e; real' = b }

-- the sheet that a reader is handed: what is told of it, and the fronts of the list l and of the mark area ms
abbrev pub handed_out : Read → List ℕ → List ℕ → Sheet
handed_out h l ms = sheet h.edition (take h.steps l) (take h.steps ms) h.cost h.real'

-- what the code tells of a sheet
abbrev pub read_of : Heading → Read
read_of h = heading h.steps h.cost h.edition h.real

abbrev pub reading_as : Result Heading Refusal → Answer Read
reading_as = answer_by read_of

abbrev pub declined : ℕ → ℕ → Answer Read
declined n p = refused n p

-- what a sheet's fields before the steps say of its plan
unfoldable pub heading_of : List ℕ → Read
heading_of s = heading (steps_in s) (sheet_of s).cost (edition_in s) (sheet_of s).real

-- the checks from the first mark or step on
unfoldable pub end_check : List ℕ → Check
end_check s =
    in_order (steps_checks s (mark_width (edition_in s)) 53 (steps_in s) ++ (check (ends_at s (sheet_end (edition_in s) (steps_in s))) 12 (sheet_end (edition_in s) (steps_in s)) ∷ []))

-- 8.4: the first bit of the mark or the step that is cut short by the end of n bits
unfoldable pub cut_in : ℕ → ℕ → ℕ
cut_in w n = 53 + (n - 53) / (w + 10) * (w + 10) + min w ((n - 53) % (w + 10))
