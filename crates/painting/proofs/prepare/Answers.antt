use Rattle.std.proofs.Common.{◌≡◌, Err, refl, ap, ◌∙◌, rules}
use Rattle.answers.specs.Answers.{check_of}
use Rattle.painting.proofs.Checks.{cyclic_below, seven_passes, readied_seven}
use Rattle.painting.proofs.prepare.Goals as goal

pub refused_at-requires : goal.refused_at-requires
refused_at-requires c = cyclic_below _ c.requires.formed _ c.cycle.ensures

pub returns-in_err-refused_at : goal.returns-in_err-refused_at
returns-in_err-refused_at c =
    let e : c.from_residual.result ≡ Err c.in_err-refused_at.field-0.0 = search rules in
    readied_seven _ _ _ _ (ap check_of e ∙ c.in_err-refused_at.ensures) c.cycle.ensures (ap check_of e)

pub prepare_acyclic-requires : goal.prepare_acyclic-requires
prepare_acyclic-requires c =
    let y = seven_passes _ _ _ c.in_ok-refused_at.ensures c.cycle.ensures refl in
    (record { loaded = c.requires; colours = c.painted-paint.ensures; acyclic = y }, c.graph-rows.ensures)
