use Rattle.planning.specs.Basics.{code}
use Rattle.mardiskos.proofs.runs.mardiskos_newest.Goals as goal

pub returns-in_default-clause-value : goal.returns-in_default-clause-value
unfolding code
returns-in_default-clause-value c = rw (← c.in_default.ensures.result_value, c.code.ensures, c.in_default.is) (cc)
