-- The cost that the code looks up is that of the action.
use Rattle.std.proofs.Common.{sym, ap, ◌∙◌, refl}
use Rattle.planning.specs.Record.{Action}
use Rattle.task.specs.Task.{action_in}
use Rattle.task.proofs.Reading.{task_in_act}
use Rattle.search.specs.Search.{through}
use Rattle.search.proofs.label.Goals as goal

pub returns : goal.returns
unfolding through action_in
returns c = rw (c.cost-cost.ensures ∙ sym (ap (λ (a : Action). a.cost) (task_in_act c.args.task.now c.args.i c.requires.1))) refl
