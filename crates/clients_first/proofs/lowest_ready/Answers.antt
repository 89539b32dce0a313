-- `find` passes no variable that is ready.
use Rattle.std.proofs.Common.{◌≡◌, true, false, ◌&&◌, not, rules}
use Rattle.std.proofs.lemmas.Iterator.{first_from_Range}
use borrow.Author.Tests.{tests}
use Rattle.planning.specs.Basics.{some_below}
use Rattle.sets.specs.Sets.{in_set, sets_of}
use Rattle.graph.proofs.Found.{found_first}
use Rattle.clients_first.proofs.lowest_ready.Goals as goal

pub returns : goal.returns
unfolding sets_of
returns c =
    let p = λ (v : _). in_set c.args.left v && not (some_below 64 (λ u. in_set c.args.left u && sets_of c.args.rows.now v u)) in
    found_first _ p _ (first_from_Range _ _ _ _ (λ v. p v ≡ true) (λ v. p v ≡ false) c.find.ensures.ran (λ x q k. search (rules, tests)) (λ x q k. search (rules, tests)))
