-- The board has the answer, and the list is filled from it; after a refusal the list is blank.
use mathlib.Core.Path.{refl, subst}
use borrow.Author.Rules.{rules}
use lib.ListN.{length}
use Rattle.std.specs.Prelude.{Ok, Err}
use Rattle.newest.specs.Answers.{Called}
use Rattle.newest.proofs.Boards.{answer_told, answer_refused_by, list_filled, list_blank}
use Rattle.newest.proofs.newest.Goals as goal
use Rattle.newest.proofs.newest.Goals.{In-Ok, In-Err}

told : (c : In-Ok) → Called c.args.bytes.now c.args.list.now (length c.args.values.now) (Ok c.in-Ok.b)
told c = subst (Called _ _ _) c.in-Ok.is c.tell.ensures

refused : (c : In-Err) → Called c.args.bytes.now c.args.list.now (length c.args.values.now) (Err c.in-Err.f)
refused c = subst (Called _ _ _) c.in-Err.is c.tell.ensures

pub returns-in-Ok-clause-result_value : goal.returns-in-Ok-clause-result_value
returns-in-Ok-clause-result_value c = answer_told _ _ _ _ (told (goal.at.returns-in-Ok-clause-result_value c).In-Ok)

pub returns-in-Ok-clause-values_after : goal.returns-in-Ok-clause-values_after
returns-in-Ok-clause-values_after c = list_filled _ _ _ _ (told (goal.at.returns-in-Ok-clause-values_after c).In-Ok) (search rules) _ _ _ refl c.put.ensures c.blank_from.ensures

pub returns-in-Err-clause-result_value : goal.returns-in-Err-clause-result_value
returns-in-Err-clause-result_value c = answer_refused_by _ _ _ _ (refused (goal.at.returns-in-Err-clause-result_value c).In-Err)

pub returns-in-Err-clause-values_after : goal.returns-in-Err-clause-values_after
returns-in-Err-clause-values_after c = list_blank _ _ _ _ (refused (goal.at.returns-in-Err-clause-values_after c).In-Err) _ c.blank.ensures
