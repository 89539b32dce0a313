-- The marks passed stand in front, the others are left.
use mathlib.Core.List.{◌++◌}
use Prim.Native.Nat.{◌+◌, ◌*◌, ◌-◌}
use lib.ListN.{take}
use Rattle.unpack.proofs.Copying.{Copying}
use Rattle.sheet.proofs.Rows.{row, mark_at}
use Rattle.unpack.proofs.read_each_mark.Given as goal

abbrev pub invariant-loop-i : goal.invariant-loop-i
invariant-loop-i l =
    Copying (mark_at l.bytes 1) 11 l.steps (take l.from l.initial.marks ++ row (mark_at l.bytes 1) 11 (53 + 11 * l.from) (l.steps - l.from)) l.initial.marks l.marks l.i
