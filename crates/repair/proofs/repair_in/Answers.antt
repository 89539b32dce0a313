use Rattle.std.proofs.Common.{sym, ◌∙◌}
use Rattle.repair.proofs.Ending.{few_memo, whole_memo}
use Rattle.repair.proofs.repair_in.Goals as goal

pub walk-requires : goal.walk-requires
walk-requires c =
    let p = c.requires in
    (p.0, p.1, p.2, λ K. few_memo _ K (sym c.has_few_values.ensures ∙ c.if-has_few_values.true))

pub walk-requires-2 : goal.walk-requires-2
walk-requires-2 c =
    let p = c.requires in
    (p.0, p.1, p.2, λ K. whole_memo _ K (sym c.has_few_values.ensures ∙ c.if-has_few_values.false))
