use mathlib.Core.Path.{ap, ◌∙◌}
use Prim.Native.Nat.{◌+◌, ◌/◌}
use lib.Bits.{bit_or}
use lib.ListN.{get_or}
use Rattle.ready.proofs.Bits.{marked, front_kept}
use Rattle.ready.proofs.mark.Goals as goal

pub returns : goal.returns
returns c =
    let a = c.args in
    let p = c.requires in
    marked a.ready.now a.i _ _ p.0 p.1 (ap (bit_or (get_or a.ready.now (a.i / 64 + 1) 0)) c.single.ensures)
    (ap (λ x. bit_or x c.single-2.result) (front_kept a.ready.now a.i _ p.0 p.1) ∙ ap (bit_or (get_or a.ready.now 0 0)) c.single-2.ensures)
