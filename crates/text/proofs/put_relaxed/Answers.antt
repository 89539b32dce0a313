use native.Mathlib.Omega.{arith}
use Rattle.text.proofs.Texts.{put_then, line_more}
use Rattle.text.proofs.put_relaxed.Goals as goal

pub returns : goal.returns
returns c = let P = c.put_head-end.ensures in
    let Q = c.put_rest.ensures in (put_then (line_more _ _ _) P.0 Q.0, omega (arith, P.1, Q.1))
