-- A list that stops before its end is no plan; of one that went to its end the goals tell.
use mathlib.Core.Path.{ap, ◌∙◌}
use native.Mathlib.Omega.{arith}
use Rattle.planning.specs.Runs.{holds}
use Rattle.state.proofs.Stating.{goals_states}
use Rattle.callers.proofs.Going.{judged_short, judged_whole}
use Rattle.callers.proofs.judge_at.Goals as goal

pub returns-then-steps-list : goal.returns-then-steps-list
returns-then-steps-list g c = judged_short _ _ _ _ (omega arith)

pub all_hold-held-requires : goal.all_hold-held-requires
all_hold-held-requires g c = rw c.listed.ensures (goals_states _ _ c.load-goals.ensures).small

pub returns : goal.returns
returns g c =
    let s = g.S.Holding.state c.args.state.now in
    let e = c.all_hold-held.ensures ∙ ap (holds s) (rw c.listed.ensures (goals_states _ _ c.load-goals.ensures).stated) in
    judged_whole _ _ _ _ (omega arith) _ e
