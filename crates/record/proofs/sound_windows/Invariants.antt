-- The checks of the whole list are those of the facts left, from variable `low` on (`Run`).
use Rattle.record.proofs.Laws.{Run}
use Rattle.record.proofs.sound_windows.Given as goal

abbrev pub invariant-loop-left : goal.invariant-loop-left
invariant-loop-left g l = Run l.bytes l.from l.count l.at l.low l.left

abbrev pub decreases-loop-left : goal.decreases-loop-left
decreases-loop-left g l = l.left
