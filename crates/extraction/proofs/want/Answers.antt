use mathlib.Core.Path.{ap, ◌∙◌}
use lib.ListN.{get_or}
use Rattle.extraction.proofs.Keeping.{adding_turn, adding_end}
use Rattle.extraction.proofs.want.Goals as goal

pub loop-f-preserved : goal.loop-f-preserved
loop-f-preserved c =
    adding_turn _ _ _ _ _ c.loop-f.invariant _ _ c.loop-f-test.true (c.from-in-loop-f.ensures ∙ ap (λ f. get_or c.args.first.now f 0) c.from.ensures) c.add.ensures

pub returns : goal.returns
returns c = adding_end _ _ _ _ _ c.loop-f.invariant c.loop-f-test.false
