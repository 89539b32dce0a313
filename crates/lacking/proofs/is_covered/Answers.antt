use Rattle.std.proofs.Common.{sym, ◌∙◌, arith}
use Rattle.lacking.proofs.Complete.{complete_covers}
use Rattle.lacking.proofs.Keeping.{kept_at}
use Rattle.lacking.proofs.is_covered.Goals as goal

pub returns-in-loop-k : goal.returns-in-loop-k
returns-in-loop-k c =
    let p = c.requires in
    let C = kept_at _ _ p.1 _ _ (omega arith) c.in-Some.is _ _ _ c.from.ensures c.if-from-f.true c.from-in-loop-k.ensures in
    λ _. complete_covers _ p.0.loaded.formed _ _ _ _ C (sym c.all_marked.ensures ∙ c.if-all_marked.true)
