-- A space and the digits, of which there are few.
use mathlib.Core.Path.{ap, ◌∙◌}
use native.Mathlib.Omega.{arith}
use Rattle.planning.specs.Listing.{decimal}
use Rattle.text.proofs.Numerals.{digits_few, decimal_of}
use Rattle.text.proofs.Texts.{put_then, spaced}
use Rattle.text.proofs.put_number.Goals as goal

pub put-requires : goal.put-requires
put-requires c =
    let d = c.decimal-k.ensures in
    let l = digits_few 10 c.from.result _ (omega arith) (omega arith) d.len in
    omega (arith, d.in_bounds)

pub returns : goal.returns
returns c =
    let d = c.decimal-k.ensures in
    let P = c.put-start.ensures in
    let Q = c.put.ensures in
    let l = digits_few 10 c.from.result _ (omega arith) (omega arith) d.len in (
      put_then (spaced _ _ (d.digits ∙ (decimal_of _ _ d.len ∙ ap decimal c.from.ensures))) P Q,
      omega (arith, d.in_bounds, P.ends, Q.ends),
      λ h. let m = digits_few 5 c.from.result _ (omega arith) (omega arith) d.len in omega (arith, d.in_bounds, P.ends, Q.ends),
    )
