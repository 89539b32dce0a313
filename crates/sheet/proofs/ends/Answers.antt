-- The two tests are those of `ends_at`.
use mathlib.Core.Path.{refl, sym, ◌∙◌}
use borrow.Author.Tests.{eq-eqb, ne_eqb}
use Rattle.planning.specs.Record.{ends_at}
use Rattle.sheet.proofs.Widths.{eighths}
use Rattle.sheet.proofs.ends.Goals as goal

pub returns-then-n-div_ceil : goal.returns-then-n-div_ceil
unfolding ends_at
returns-then-n-div_ceil c = rw (ne_eqb _ _ (λ e. c.if-n-div_ceil.true (e ∙ sym (c.div_ceil.ensures ∙ eighths c.args.end)))) refl

pub returns : goal.returns
unfolding ends_at
returns c = rw (c.read_bits.ensures, eq-eqb _ _ (c.if-n-div_ceil.false ∙ (c.div_ceil.ensures ∙ eighths c.args.end))) refl
