-- The lowest entry that is over.
use mathlib.Core.Path.{◌≡◌, refl, sym, ◌∙◌}
use lib.Dec.{ltb}
use Rattle.std.proofs.Common.{rules, tests}
use Rattle.std.specs.List.{position_from}
use Rattle.std.proofs.lemmas.Iterator.{YieldsList-from_slice}
use Rattle.std.proofs.lemmas.Iterator.Search.{position_from_yields_List}
use Rattle.std.proofs.lemmas.Iterator.Adapters.{position_from-zero}
use Rattle.planning.specs.Basics.{refuse_at}
use Rattle.sheet.proofs.Entries.{lowest_over, none_found}
use Rattle.sheet.proofs.check_each.Goals as goal
use Rattle.sheet.proofs.check_each.Goals.{After-position}

searched : (c : After-position) → c.position.result ≡ position_from (ltb 1023) 0 c.args.list.now
searched c =
    position_from_yields_List (ltb 1023) _ _ c.position.result c.position.ensures.ran (YieldsList-from_slice c.args.list.now cc) (λ x b q k. search (rules, tests))
    ∙ position_from-zero (ltb 1023) c.args.list.now

pub returns-in-Some : goal.returns-in-Some
unfolding refuse_at
returns-in-Some c =
    rw (lowest_over _ c.in-Some.i (sym (searched (goal.at.returns-in-Some c).After-position) ∙ c.in-Some.is)) refl

pub returns : goal.returns
unfolding refuse_at
returns c = rw (none_found _ (sym (searched (goal.at.returns c).After-position) ∙ c.in_default.is)) refl
