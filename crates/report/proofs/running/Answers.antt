use Rattle.std.proofs.Common.{arith, ap, length}
use Rattle.answers.specs.Plans.{answer_of}
use Rattle.report.proofs.Answers.{runnable_few}
use Rattle.report.proofs.running.Goals as goal

pub overflow_cast-result : goal.overflow_cast-result
overflow_cast-result c = omega (arith, ap length c.runnable-part.ensures, runnable_few (answer_of c.args.answer) c.args.plan.now)
