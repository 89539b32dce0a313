-- Four fields put together.
use mathlib.Core.Path.{◌∙◌}
use native.Mathlib.Omega.{arith}
use Rattle.pack.proofs.Fields.{one_is, one_if_lt}
use Rattle.pack.proofs.Words.{front_bits}
use Rattle.pack.proofs.front.Goals as goal

pub returns : goal.returns
returns c =
    let r = c.from.ensures ∙ one_is c.args.real in
    rw (r, c.from-2.ensures, c.from-3.ensures) (front_bits c.args.mark _ _ _ c.requires (one_if_lt c.args.real) (omega arith) (omega arith))
