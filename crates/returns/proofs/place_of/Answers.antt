use Rattle.std.proofs.Common.{sym}
use Rattle.returns.proofs.Marks.{place_none, place_own, place_other}
use Rattle.returns.proofs.place_of.Goals as goal

pub returns-in_default : goal.returns-in_default
returns-in_default c = rw c.in_default.is (sym (place_none _))

pub returns-then-g-f : goal.returns-then-g-f
returns-then-g-f c = rw c.in-Some.is (sym (place_own _ _ c.if-g-f.true))

pub returns-else-g-f : goal.returns-else-g-f
returns-else-g-f c = rw c.in-Some.is (sym (place_other _ _ c.if-g-f.false))
