-- The definition's value for a verdict under one semantics.
use Rattle.planning.specs.Runs.{Judged}
use Rattle.callers.specs.declared.Verdict.{Verdict}

abbrev pub judged_of : Verdict → Judged
judged_of v = record { steps = v.steps; plan = v.plan }
