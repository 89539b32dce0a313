use Rattle.text.proofs.Texts.{verdict_real, verdict_unreal}
use Rattle.text.proofs.put_verdict.Goals as goal

pub returns-then-real : goal.returns-then-real
returns-then-real c = verdict_real _ c.if-real.true c.put_line.ensures.0

pub returns : goal.returns
returns c = verdict_unreal _ c.if-real.false c.put_line-2.ensures.0
