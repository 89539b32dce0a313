-- The first i facts passed, so that the checks of all are those of the rest, from the least variable that may still come.
use Rattle.planning.specs.Record.{facts_checks}
use Rattle.planning.specs.Basics.{in_order}
use mathlib.Core.Path.{◌≡◌}
use Prim.Native.Nat.{◌+◌, ◌*◌, ◌-◌}
use Rattle.record.proofs.check_facts.Given as goal

abbrev pub invariant-loop-i : goal.invariant-loop-i
invariant-loop-i l = in_order (facts_checks l.bytes l.from 0 l.count) ≡ in_order (facts_checks l.bytes (l.from + 12 * l.i) l.low (l.count - l.i))
