-- Where the test of a window fails, one of its facts does not pass.
use Rattle.record.proofs.Laws.{run_turn, run_last, run_none, run_stop}
use Rattle.loader.proofs.Loading.{filling_turn, filling_last, filling_done, facts_few}
use native.Mathlib.Omega.{arith}
use Rattle.loader.proofs.load_facts.Goals as goal

pub returns-in_err-low : goal.returns-in_err-low
returns-in_err-low c =
    let P = c.requires in
    rw c.from_residual.ensures (run_stop _ _ _ _ _ _ _ _ c.loop-left.invariant.run c.window_at-window.ensures P.0.bits P.1 _ (omega arith) c.in_err-low.ensures)

pub loop-left-preserved : goal.loop-left-preserved
loop-left-preserved c =
    let P = c.requires in
    let F = c.loop-left.invariant in
    let R = F.run.place in
    let n = F.loaded.long in
    let w = c.window_at-window.ensures in
    let e = c.spread.ensures in
    filling_turn _ _ _ _ _ _ _ _ _ _ F _ _ (omega arith) (run_turn _ _ _ _ _ _ _ _ F.run w P.0.bits P.1 _ (omega arith) c.in_ok-low.ensures)
    (rw c.put_four.ensures (facts_few _ _ 4 _ _ _ _ _ _ _ w (omega arith) (omega (arith, P.0.bits)) (omega (arith, P.0.room, F.place, F.run.within)) e.0 e.1 e.2 e.3))

pub returns-then-left-eq0 : goal.returns-then-left-eq0
returns-then-left-eq0 c =
    let F = c.loop-left.invariant in
    record { passed = run_none _ _ _ _ _ _ F.run c.if-left-eq0.true; loaded = filling_done _ _ _ _ _ _ _ _ _ _ F c.if-left-eq0.true }

pub returns-in_err-sound_few : goal.returns-in_err-sound_few
returns-in_err-sound_few c =
    let P = c.requires in
    rw c.from_residual-in_err-sound_few.ensures
    (run_stop _ _ _ _ _ _ _ _ c.loop-left.invariant.run c.window_at-window-2.ensures P.0.bits P.1 _ (omega arith) c.in_err-sound_few.ensures)

pub returns : goal.returns
returns c =
    let P = c.requires in
    let F = c.loop-left.invariant in
    let R = F.run.place in
    let n = F.loaded.long in
    let w = c.window_at-window-2.ensures in
    let e = c.spread-2.ensures in
    record {
      passed = run_last _ _ _ _ _ _ _ _ F.run w P.0.bits P.1 _ c.in_ok-sound_few.ensures;
      loaded = filling_last _ _ _ _ _ _ _ _ _ _ F _
          (rw c.put_four-2.ensures (facts_few _ _ _ _ _ _ _ _ _ _ w (omega arith) (omega (arith, P.0.bits)) (omega (arith, P.0.room, F.place, F.run.within)) e.0 e.1 e.2 e.3));
    }
