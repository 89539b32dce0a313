use Rattle.std.proofs.Common.{sym, ◌∙◌}
use Rattle.paths.proofs.Labels.{lead_open, lead_none, lead_some}
use Rattle.paths.proofs.lead.Goals as goal

pub returns-then-member : goal.returns-then-member
returns-then-member c = lead_open _ _ _ (sym c.member.ensures ∙ c.if-member.true)

pub returns-then-l-eq-UNREACHED : goal.returns-then-l-eq-UNREACHED
returns-then-l-eq-UNREACHED c = lead_none _ _ _ (sym c.member.ensures ∙ c.if-member.false) c.if-l-eq-UNREACHED.true

pub returns-else-l-eq-UNREACHED : goal.returns-else-l-eq-UNREACHED
returns-else-l-eq-UNREACHED c = lead_some _ _ _ (sym c.member.ensures ∙ c.if-member.false) c.if-l-eq-UNREACHED.false
