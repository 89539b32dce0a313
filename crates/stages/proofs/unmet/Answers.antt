use Rattle.std.proofs.Common.{Bool, ◌/◌, ◌%◌, eqb, get_or, refl, sym, ◌∙◌}
use Rattle.planning.specs.Newest.{alone}
use Rattle.sets.specs.Sets.{values_of}
use Rattle.leads.proofs.Holding.{unmet_black}
use Rattle.stages.proofs.unmet.Goals as goal

pub returns-then-is_black : goal.returns-then-is_black
unfolding alone values_of
returns-then-is_black c =
    let a = c.args in
    let met : Bool = eqb (a.f % 64) (get_or a.newest.now (a.f / 64) 0) in
    unmet_black _ met met refl (sym c.is_black.ensures ∙ c.if-is_black.true)
