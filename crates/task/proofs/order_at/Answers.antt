use mathlib.Core.Path.{sym, ◌∙◌}
use native.Mathlib.Omega.{arith}
use Rattle.task.proofs.Reading.{order_length, order_get}
use Rattle.task.proofs.order_at.Goals as goal

pub overflow_add-p : goal.overflow_add-p
overflow_add-p c = let p = c.requires in omega (arith, order_length _ p.0, p.0.few)

pub offset_bounds-task-p : goal.offset_bounds-task-p
offset_bounds-task-p c = let p = c.requires in omega (arith, order_length _ p.0, p.0.few)

pub bounds-task-p : goal.bounds-task-p
bounds-task-p c = let p = c.requires in omega (arith, order_length _ p.0, p.0.few, p.0.loaded.head)

pub returns : goal.returns
returns c = let p = c.requires in c.from.ensures ∙ sym (order_get _ p.0 _ p.1)
