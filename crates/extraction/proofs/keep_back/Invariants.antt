-- Of the run from place k on, the kept actions stand from place m on, and what first reached a fact that they need, or a goal, is in the
-- set; before place k the run is as it was, as m falls no more often than k.
use Rattle.task.specs.Task.{task_in}
use Rattle.extraction.specs.Keeping.{Keeping}
use Rattle.extraction.proofs.keep_back.Given as goal

abbrev pub invariant-loop-k : goal.invariant-loop-k
invariant-loop-k l = Keeping (task_in l.task) l.initial.plan l.n l.wanted l.plan l.k l.m
