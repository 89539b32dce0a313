-- The memo with no slot marked holds no lead, so that all of its leads are right.
use mathlib.Core.Path.{◌≡◌}
use mathlib.Core.List.{List}
use Prim.Native.Nat.{ℕ}
use native.Mathlib.Omega.{arith}
use lib.ListN.{length}
use Rattle.planning.specs.Record.{Task}
use Rattle.planning.specs.Runs.{State}
use Rattle.paths.specs.Paths.{memo_for, slot, Memo}
use Rattle.paths.proofs.Memos.{slot_below}
use Rattle.leads.specs.Leads.{Blank}

pub blank_memo : (t : Task) (K : State) (memo : List ℕ) → length memo ≡ memo_for t → Blank memo → Memo t K memo
blank_memo t K memo e B = record { long = e; leads = λ v d _ _ q. absurd (omega (arith, q, B (slot v d) (slot_below v d))) }
