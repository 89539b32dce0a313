-- Where no new fact of a needed variable comes the leads stay; else the memo is blank.
use Rattle.std.proofs.Common.{arith, sym, ◌∙◌}
use Rattle.task.specs.Task.{task_in}
use Rattle.sets.specs.Sets.{sets_of}
use Rattle.paths.proofs.Memos.{memo_marks}
use Rattle.leads.proofs.Forgetting.{blank_memo}
use Rattle.leads.proofs.Holding.{refresh_kept}
use Rattle.leads.proofs.refresh.Goals as goal

pub forget-requires : goal.forget-requires
forget-requires c = omega (arith, c.requires.memo.long, memo_marks (task_in c.args.arcs.now.task.now))

pub returns-then-not-adds_none : goal.returns-then-not-adds_none
returns-then-not-adds_none c = blank_memo _ _ _ (c.forget.auto.memo ∙ c.requires.memo.long) c.forget.ensures

pub returns-else-not-adds_none : goal.returns-else-not-adds_none
returns-else-not-adds_none c =
    let a = c.args in
    refresh_kept (task_in a.arcs.now.task.now) (sets_of a.arcs.now.ever.now) a.memo.now a.i a.needs c.requires.loaded.2 c.requires.memo (sym c.adds_none.ensures ∙ c.if-not-adds_none.false)
