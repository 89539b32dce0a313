-- All places but the action's are ones, and the action, if there is one, has the last place.
use borrow.Author.Rules.{rules}
use mathlib.Core.Path.{ap}
use Prim.Native.Nat.{ℕ, ◌-◌}
use lib.ListN.{length}
use Rattle.counts.proofs.Marking.{marked_moves, marked_action}
use Rattle.counts.proofs.mark.Goals as goal

pub returns-then-action : goal.returns-then-action
returns-then-action c =
    let a = c.if-action.true in
    marked_action _ _ _ _ (ap (λ (n : ℕ). length c.args.marks.now - n) c.from.ensures) (c.fill.ensures.after (search rules)) a (c.requires a)

pub returns-else-action : goal.returns-else-action
returns-else-action c =
    marked_moves _ _ _ _ (ap (λ (n : ℕ). length c.args.marks.now - n) c.from.ensures) (c.fill.ensures.after (search rules)) c.if-action.false
