use mathlib.Core.Path.{◌≡◌, sym, ◌∙◌}
use Prim.Native.Nat.{◌/◌, ◌%◌}
use Rattle.sets.specs.Sets.{sets_of, mode_of}
use Rattle.leads.proofs.Holding.{unmet_black, unmet_red}
use Rattle.leads.proofs.unheld.Goals as goal
use Rattle.leads.proofs.unheld.Goals.{After-member}

in_mode : (c : After-member) → mode_of c.args.set (c.args.f / 64) ≡ c.member.result
unfolding mode_of
in_mode c = sym c.member.ensures

pub returns-then-member : goal.returns-then-member
returns-then-member c =
    let a = c.args in
    unmet_black (mode_of a.set (a.f / 64)) _ (sets_of a.sets.now (a.f / 64) (a.f % 64)) c.holds.ensures (in_mode (goal.at.returns-then-member c).After-member ∙ c.if-member.true)

pub returns-else-member : goal.returns-else-member
returns-else-member c =
    let a = c.args in
    c.if-member.false ∙ unmet_red (mode_of a.set (a.f / 64)) (sets_of a.sets.now (a.f / 64) (a.f % 64)) (in_mode (goal.at.returns-else-member c).After-member ∙ c.if-member.false)
