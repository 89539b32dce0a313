use Rattle.state.proofs.Choosing.{choose_yes, choose_no}
use Rattle.state.proofs.choose.Goals as goal

pub returns-then-b : goal.returns-then-b
returns-then-b c = choose_yes _ _ _ c.if-b.true

pub returns-else-b : goal.returns-else-b
returns-else-b c = choose_no _ _ _ c.if-b.false
