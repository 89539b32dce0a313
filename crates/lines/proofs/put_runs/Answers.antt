use native.Mathlib.Omega.{arith}
use Rattle.lines.proofs.Texts.{put_runs}
use Rattle.lines.proofs.put_runs.Goals as goal

pub returns : goal.returns
returns c =
    let P = c.put_line-end.ensures in
    let Q = c.put_relaxed.ensures in (
      put_runs c.args.bytes.now _ _ _ _ _ _ c.reached.auto.list c.reached.ensures c.relaxed-n.ensures.0 c.relaxed-n.ensures.1 c.front.ensures.0 P.0 Q.0,
      omega (arith, P.1, Q.1),
    )
