use mathlib.Core.Path.{sym, ◌∙◌}
use Rattle.sets.specs.Sets.{sets_of}
use Rattle.waiting.proofs.Places.{passing_turn, open_at}
use Rattle.waiting.proofs.unmet.Goals as goal

pub returns-then-not-holds : goal.returns-then-not-holds
returns-then-not-holds c =
    record { passing = c.loop-k.invariant; open' = λ _. open_at (sets_of c.args.sets.now) _ _ c.from.ensures (sym c.holds.ensures ∙ c.if-not-holds.true) }

pub loop-k-preserved : goal.loop-k-preserved
loop-k-preserved c =
    passing_turn _ _ _ _ _ _ c.loop-k.invariant c.loop-k-test.true c.from.ensures (sym c.holds.ensures ∙ c.if-not-holds.false)
