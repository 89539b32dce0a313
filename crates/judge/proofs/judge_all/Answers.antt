-- Each verdict is that of its run, and a red-black plan is a relaxed one.
use mathlib.Core.Path.{◌≡◌, ◌∙◌}
use Rattle.planning.specs.Runs.{real, black, judged}
use Rattle.task.specs.Task.{task_in}
use Rattle.callers.specs.Answers.{judged_of}
use Rattle.execution.proofs.Modes.{judgement_plan, judgement_of_lem}
use Rattle.execution.proofs.Tracing.{painted_judged, real_judged, stops_few, runs_few}
use Rattle.judge.proofs.judge_all.Goals as goal
use Rattle.judge.proofs.judge_all.Goals.{After-judge_at-real}

pub judge_at-red_black-requires : goal.judge_at-red_black-requires
judge_at-red_black-requires c = (c.requires, stops_few _ _ _ _ _ c.follow-x.ensures.painted)

pub judge_at-real-requires : goal.judge_at-real-requires
judge_at-real-requires c = (c.requires, runs_few _ _ _ _ c.follow-x.ensures.run_real)

module _ (c : After-judge_at-real) where
  red_black_is : judged_of c.judge_at-red_black.result ≡ judged (task_in c.args.task.now) (black (task_in c.args.task.now)) c.args.list.now
  red_black_is =
      let T = c.follow-x.ensures in
      c.judge_at-red_black.ensures ∙ rw T.black_ones (painted_judged _ c.requires.loaded.formed _ c.requires.entries _ _ _ T.painted)

  real_is : judged_of c.judge_at-real.result ≡ judged (task_in c.args.task.now) real c.args.list.now
  real_is = c.judge_at-real.ensures ∙ real_judged _ c.requires.loaded.formed _ c.requires.entries _ _ c.follow-x.ensures.run_real

pub returns-then-red_black : goal.returns-then-red_black
returns-then-red_black c =
    let a = (goal.at.returns-then-red_black c).After-judge_at-real in
    judgement_plan _ _ _ _ (red_black_is a) (real_is a) c.if-red_black.true

pub returns : goal.returns
returns c =
    let a = (goal.at.returns c).After-judge_at-real in
    judgement_of_lem _ _ _ _ _ c.judge_relaxed-relaxed.ensures (red_black_is a) (real_is a)
