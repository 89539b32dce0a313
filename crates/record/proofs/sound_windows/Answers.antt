use Rattle.record.proofs.Laws.{run_none, run_decides}
use mathlib.Core.Path.{refl, sym, ◌∙◌}
use native.Mathlib.Omega.{arith}
use Rattle.record.proofs.sound_windows.Goals as goal
use Rattle.record.proofs.sound_windows.Goals.{then-left-eq0, else-left-eq0}

pub returns : goal.returns
returns g c =
    let I = c.loop-left.invariant in
    let B = c.requires.bounds in
    λ e. elim c.if-left-eq0.branch [
      | then-left-eq0 w ↦ run_none _ _ _ _ _ _ I w.if-left-eq0.true
      | else-left-eq0 w ↦ run_decides _ _ _ _ _ _ _ _ I
          (c.requires.windows.leads _ _ _ refl (omega (arith, I.place, I.within)) (omega (arith, I.place)) w.window-else-left-eq0.ensures)
          B.2 B.3 _ w.sound_few-else-left-eq0.ensures (sym w.is_some.ensures ∙ sym w.result-is ∙ e)
    ]
