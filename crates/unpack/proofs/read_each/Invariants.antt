-- The steps passed stand in front, the others are left.
use mathlib.Core.List.{◌++◌}
use Prim.Native.Nat.{◌+◌, ◌*◌, ◌-◌}
use lib.ListN.{take}
use Rattle.unpack.proofs.Copying.{Copying}
use Rattle.sheet.proofs.Rows.{row, step_at}
use Rattle.unpack.proofs.read_each.Given as goal

abbrev pub invariant-loop-i : goal.invariant-loop-i
invariant-loop-i l =
    Copying (step_at l.bytes l.mark) (l.mark + 10) l.steps (take l.from l.initial.list ++ row (step_at l.bytes l.mark) (l.mark + 10) (53 + (l.mark + 10) * l.from) (l.steps - l.from)) l.initial.list l.list l.i
