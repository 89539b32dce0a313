use Rattle.std.proofs.Common.{arith}
use Rattle.task.specs.Task.{task_in}
use Rattle.stages.proofs.Values.{newest_value, newest_none}
use Rattle.stages.proofs.present.Goals as goal

pub returns-then-x-count : goal.returns-then-x-count
returns-then-x-count c =
    let b = c.count.ensures in
    let few = c.requires.0.formed.count_max c.args.v in
    record {
      of = omega (arith, b, few);
      is = omega (arith, b, few, newest_value (task_in c.args.task.now) c.args.newest.now c.args.v _ c.from-x.ensures (omega (arith, b)));
      below = omega (arith, b, few);
    }

pub returns-else-x-count : goal.returns-else-x-count
returns-else-x-count c =
    let b = c.count.ensures in
    record {
      of = omega arith;
      is = omega (arith, newest_none (task_in c.args.task.now) c.args.newest.now c.args.v _ c.from-x.ensures (omega (arith, b)));
      below = omega (arith, c.requires.0.formed.count_min c.args.v);
    }
