use Rattle.std.proofs.Common.{◌≡◌, ℕ, sym, ◌∙◌, None, arith}
use borrow.Author.Tests.{not-true}
use Rattle.returns.proofs.Marks.{pre_markable}
use Rattle.lacking.proofs.Keeping.{tried_unmarked, tried_complete}
use Rattle.lacking.proofs.is_complete.Goals as goal

pub mark-requires : goal.mark-requires
mark-requires c = let p = c.requires in pre_markable _ p.0.loaded _ p.1 _ _ p.2.long c.preconditions.ensures.stated None

pub returns-then-not-is_returned : goal.returns-then-not-is_returned
returns-then-not-is_returned c =
    let p = c.requires in
    (λ q. let z : ◌≡◌ {A = ℕ} 0 1 = cc in absurd (omega arith), tried_unmarked _ p.0.loaded _ p.1 _ p.3 _ p.2 _ c.preconditions.ensures.stated _ c.mark.ensures)

pub returns : goal.returns
returns c =
    let p = c.requires in (
      λ q. tried_complete _ p.0.loaded _ p.1 _ p.3 _ p.2 _ c.preconditions.ensures.stated _ c.mark.ensures _ _
          (sym c.is_returned.ensures ∙ c.if-not-is_returned.false) (sym c.lacks_some.ensures ∙ not-true _ q),
      tried_unmarked _ p.0.loaded _ p.1 _ p.3 _ p.2 _ c.preconditions.ensures.stated _ c.mark.ensures,
    )
