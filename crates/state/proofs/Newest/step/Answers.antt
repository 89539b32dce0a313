-- The effects stored over 64 in each place, and these over the old values, are the values after the action.
use borrow.Author.Rules.{rules}
use mathlib.Core.Path.{◌∙◌}
use Rattle.state.proofs.Choosing.{over_newer}
use Rattle.state.proofs.Newest.step.Goals as goal

pub returns : goal.returns
returns c =
    c.laid-values.ensures ∙ over_newer _ c.requires.0.formed _ c.args.self.values _ (search rules) c.stored-effects.ensures
