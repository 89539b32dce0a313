use mathlib.Core.Path.{sym, ◌∙◌}
use Rattle.planning.specs.Runs.{variables, count}
use Rattle.laws.proofs.Formed.{Sorted}
use Rattle.task.specs.Task.{facts_of, task_in}
use Rattle.task.proofs.Slices.{sorted_inside}
use Rattle.counts.proofs.Plainly.{all_fails, all_passes, all_end}
use Rattle.counts.proofs.needs_black.Goals as goal

pub is_black-requires : goal.is_black-requires
is_black-requires c =
    let t = task_in c.args.task.now in
    let sorted : Sorted (variables t) (count t) 0 (facts_of c.preconditions-facts.result.now) = rw c.preconditions-facts.ensures.stated (c.requires.0.formed.pre_sorted c.args.i) in
    (c.requires.0, rw c.from.ensures (sorted_inside _ _ _ 0 sorted _ c.loop-f-test.true))

pub returns-then-not-is_black : goal.returns-then-not-is_black
returns-then-not-is_black c =
    let S = c.preconditions-facts.ensures.stated in
    sym (rw (← S) (c.loop-f.invariant ∙ all_fails _ _ _ c.loop-f-test.true _ c.from.ensures (sym c.is_black.ensures ∙ c.if-not-is_black.true)))

pub loop-f-preserved : goal.loop-f-preserved
loop-f-preserved c = c.loop-f.invariant ∙ all_passes _ _ _ c.loop-f-test.true _ c.from.ensures (sym c.is_black.ensures ∙ c.if-not-is_black.false)

pub returns : goal.returns
returns c =
    let S = c.preconditions-facts.ensures.stated in
    sym (rw (← S) (c.loop-f.invariant ∙ all_end _ _ _ c.loop-f-test.false))
