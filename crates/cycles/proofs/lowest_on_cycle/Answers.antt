-- `find` passes no variable that has a way to itself.
use Rattle.std.proofs.Common.{◌≡◌, true, false, rules}
use Rattle.std.proofs.lemmas.Iterator.{first_from_Range}
use borrow.Author.Tests.{tests}
use Rattle.sets.specs.Sets.{sets_of}
use Rattle.graph.proofs.Found.{found_first}
use Rattle.cycles.proofs.lowest_on_cycle.Goals as goal

pub returns : goal.returns
unfolding sets_of
returns c =
    found_first _ _ _ (first_from_Range _ _ _ _ (λ v. sets_of c.args.rows.now v v ≡ true) (λ v. sets_of c.args.rows.now v v ≡ false) c.find.ensures.ran (λ x q k. search (rules, tests)) (λ x q k. search (rules, tests)))
