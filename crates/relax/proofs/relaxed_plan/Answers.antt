use mathlib.Core.Path.{◌≡◌, refl, sym, ◌∙◌}
use native.Mathlib.Omega.{arith}
use borrow.Author.Tests.{not-true}
use Rattle.planning.specs.Relaxed.{facts_reached}
use Rattle.laws.proofs.Sizes.{facts_reached_le}
use Rattle.task.specs.Task.{task_in}
use Rattle.forward.proofs.Answers.{reached_facts}
use Rattle.relax.proofs.relaxed_plan.Goals as goal
use Rattle.relax.proofs.relaxed_plan.Goals.{After-reached-reached}

reached_is : (c : After-reached-reached) → c.reached-reached.result ≡ facts_reached (task_in c.args.task.now)
reached_is c = c.reached-reached.ensures ∙ reached_facts _ c.requires.0.formed _ c.run_forward-ran.ensures.state

pub overflow_cast-reached : goal.overflow_cast-reached
overflow_cast-reached c = record { fits = omega (arith, reached_is c, facts_reached_le _ c.requires.0.formed) }

pub returns-then-not-ran : goal.returns-then-not-ran
returns-then-not-ran c = record { unsolved = sym c.run_forward-ran.ensures.solved ∙ not-true _ c.if-not-ran.true; reason = refl; place' = reached_is c }
