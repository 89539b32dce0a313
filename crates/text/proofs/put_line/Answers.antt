use native.Mathlib.Omega.{arith}
use Rattle.text.proofs.Texts.{put_then, line_one}
use Rattle.text.proofs.put_line.Goals as goal

pub returns : goal.returns
returns c = let P = c.put_head-end.ensures in
    let Q = c.put.ensures in (put_then (line_one _ _) P.0 Q, omega (arith, P.1, Q.ends))
