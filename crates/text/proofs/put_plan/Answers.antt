use mathlib.Core.Path.{refl}
use native.Mathlib.Omega.{arith}
use Rattle.text.proofs.Texts.{put_then, line_two}
use Rattle.text.proofs.put_plan.Goals as goal

pub returns : goal.returns
returns c =
    let P = c.put_head-steps.ensures in
    let N = c.put_number-end.ensures in
    let Q = c.put_rest.ensures in
    (put_then (line_two _ _ _ _) (put_then refl P.0 N.0) Q.0, omega (arith, P.1, N.1, Q.1))
