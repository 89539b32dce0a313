-- A value is in the answer if it is in the set and the facts are held: the set as it stands, or none.
use Rattle.std.proofs.Common.{◌≡◌, false, sym, ◌∙◌}
use mathlib.Core.Bool.{and-false}
use Rattle.planning.specs.Runs.{holds}
use Rattle.task.specs.Task.{facts_of}
use Rattle.sets.specs.Sets.{in_set, sets_of}
use Rattle.sets.proofs.Members.{in_set_empty}
use Rattle.search.proofs.if_held.Goals as goal

pub returns-else-all_hold : goal.returns-else-all_hold
returns-else-all_hold c =
    let a = c.args in
    let no : holds (sets_of a.ever.now) (facts_of a.facts.now) ≡ false = sym c.all_hold.ensures ∙ c.if-all_hold.false in
    λ x. rw (no, and-false (in_set a.set x)) (in_set_empty x)
