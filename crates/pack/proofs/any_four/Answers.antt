-- Four entries, each of them below two to its bits.
use native.Mathlib.Omega.{arith}
use mathlib.Core.Path.{refl, ◌∙◌}
use Rattle.pack.proofs.Fields.{entry_below}
use Rattle.pack.proofs.any_four.Goals as goal

pub four-requires : goal.four-requires
four-requires g c =
    let h = c.requires.0 in
    let below = entry_below g.row.MARK h in
    (omega arith, below _ c.entry_at.ensures.upper_bound, below _ c.entry_at-2.ensures.upper_bound, below _ c.entry_at-3.ensures.upper_bound, below _ c.entry_at-4.ensures.upper_bound)

pub returns : goal.returns
returns g c = (c.four.ensures.0 ∙ rw (c.entry_at.ensures.value, c.entry_at-2.ensures.value, c.entry_at-3.ensures.value, c.entry_at-4.ensures.value) refl, c.four.ensures.1)
