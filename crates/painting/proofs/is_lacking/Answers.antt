use Rattle.std.proofs.Common.{sym, ◌∙◌}
use Rattle.painting.proofs.Chains.{the_move, no_move, colour_move}
use Rattle.painting.proofs.Lacks.{lacks_none}
use Rattle.painting.proofs.Checks.{all_stated, all_markable, lacking_unmarked, lacking_move}
use Rattle.painting.proofs.is_lacking.Goals as goal

pub returns-in_default-clause-answer : goal.returns-in_default-clause-answer
returns-in_default-clause-answer c =
    let p = c.requires in
    let f = colour_move _ _ p.0 _ _ c.in_default.ensures in
    sym (lacks_none _ p.0.loaded.formed _ (no_move _ _ p.0.loaded.formed _ f))

pub mark-requires : goal.mark-requires
mark-requires c = let p = c.requires in all_markable _ p.0.loaded _ p.2 _ _ c.pre_start.ensures c.eff_end.ensures _ p.3.unmarked.long _

pub lacks_marked-requires : goal.lacks_marked-requires
lacks_marked-requires c =
    let p = c.requires in
    let k = the_move _ _ p.0.loaded.formed _ _ (colour_move _ _ p.0 _ _ c.in-Some.ensures) in
    let s = all_stated _ p.0.loaded _ p.2 _ _ c.pre_start.ensures c.eff_end.ensures in
    let u = lacking_unmarked _ p.0.loaded.formed _ p.2 _ p.3.unmarked _ k _ _ s c.mark.ensures in
    (record { loaded = p.0.loaded; chained = p.1; small = k.small; on = k.on }, p.2, record { unmarked = u; complete = p.3.complete })

pub returns-clause-answer : goal.returns-clause-answer
returns-clause-answer c =
    let p = c.requires in
    let k = the_move _ _ p.0.loaded.formed _ _ (colour_move _ _ p.0 _ _ c.in-Some.ensures) in
    let s = all_stated _ p.0.loaded _ p.2 _ _ c.pre_start.ensures c.eff_end.ensures in
    c.lacks_marked.ensures.answer ∙ lacking_move _ p.0.loaded.formed _ p.2 _ p.3.unmarked _ k _ _ s c.mark.ensures p.0.acyclic
