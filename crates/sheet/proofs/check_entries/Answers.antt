-- A sum of 0 leaves no entry to find; else the search finds the lowest.
use mathlib.Core.Path.{refl}
use Rattle.planning.specs.Basics.{refuse_at}
use Rattle.sheet.proofs.check_entries.Goals as goal

pub returns-then-excess-eq0 : goal.returns-then-excess-eq0
unfolding refuse_at
returns-then-excess-eq0 c = rw (c.excess.ensures c.if-excess-eq0.true) refl
