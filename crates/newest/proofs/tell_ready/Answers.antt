-- The pass tells how many steps run, and no more run than there are.
use native.Mathlib.Omega.{arith}
use Rattle.execution.proofs.Tracing.{stops_few, runs_few}
use Rattle.newest.proofs.Boards.{room_refused, room_passed, values_told}
use Rattle.newest.proofs.tell_ready.Goals as goal

pub returns-then-room-n : goal.returns-then-room-n
returns-then-room-n c = room_refused _ _ (omega arith)

pub overflow_cast-steps : goal.overflow_cast-steps
overflow_cast-steps c = omega (arith, stops_few _ _ _ _ _ c.follow-x.ensures.painted)

pub overflow_cast-runs : goal.overflow_cast-runs
overflow_cast-runs c = omega (arith, runs_few _ _ _ _ c.follow-x.ensures.run_real)

pub returns : goal.returns
returns c =
    let T = c.follow-x.ensures in
    let few = c.requires.loaded.formed.variables_max in
    (room_passed _ _ (omega arith), values_told _ _ _ _ c.variables-n.ensures (omega arith) (omega arith) T.painted.steps T.run_real.runs T.run_real.newest)
