-- All facts are marked where those still to come are.
use Rattle.std.proofs.Common.{◌≡◌, drop}
use Rattle.planning.specs.Runs.{holds}
use Rattle.task.specs.Task.{facts_of}
use Rattle.returns.specs.Returns.{marked}
use Rattle.returns.proofs.first_unmarked.Given as goal

abbrev pub invariant-loop-k : goal.invariant-loop-k
invariant-loop-k l = holds (marked l.own l.marks) (facts_of l.facts) ≡ holds (marked l.own l.marks) (facts_of (drop l.k l.facts))
