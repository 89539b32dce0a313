-- With nothing left it is the moves for the goals; else those for the first entry.
use Rattle.std.proofs.Common.{arith}
use Rattle.stages.proofs.Arranging.{stage_last, stage_first}
use Rattle.stages.proofs.stage.Goals as goal

pub returns-in-empty-clause-put : goal.returns-in-empty-clause-put
returns-in-empty-clause-put c = (stage_last _ _ _ _ _ _ c.finish.result c.args.left.now (omega arith) c.finish.ensures.put c.finish.ensures.searched).0

pub returns-in-empty-clause-searched : goal.returns-in-empty-clause-searched
returns-in-empty-clause-searched c = (stage_last _ _ _ _ _ _ c.finish.result c.args.left.now (omega arith) c.finish.ensures.put c.finish.ensures.searched).1

pub returns-in-len1-up-clause-put : goal.returns-in-len1-up-clause-put
returns-in-len1-up-clause-put c = (stage_first _ _ _ _ _ _ c.arrange.result c.args.left.now (λ e. omega (arith, e)) c.arrange.ensures.put c.arrange.ensures.searched).0

pub returns-in-len1-up-clause-searched : goal.returns-in-len1-up-clause-searched
returns-in-len1-up-clause-searched c = (stage_first _ _ _ _ _ _ c.arrange.result c.args.left.now (λ e. omega (arith, e)) c.arrange.ensures.put c.arrange.ensures.searched).1
