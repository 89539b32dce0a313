-- What C gets of a sheet's answer: its code (9.4), and the result's numbers, 0 after a refusal (9.3).
use Rattle.std.specs.Prelude.{ℕ, ◌+◌, ◌*◌, false}
use Rattle.planning.specs.Basics.{Answer, refused, done}
use Rattle.planning.specs.Calls.{Read}
use Rattle.mardiskos.specs.declared.sheets.SheetRead.{SheetRead}

unfoldable pub size_in : Answer ℕ → ℕ
size_in (refused _ _) = 0
size_in (done n) = n

abbrev pub sheet_read_of : Answer Read → SheetRead
sheet_read_of (refused n p) = record { code = 32 * p + n; steps = 0; cost = 0; edition = 0; real = false }
sheet_read_of (done h) = record { code = 0; steps = h.steps; cost = h.cost; edition = h.edition; real = h.real' }
