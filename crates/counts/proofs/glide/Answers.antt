-- The next step is counted by a look at the values, and those behind it go on from there.
use native.Mathlib.Omega.{arith}
use Rattle.counts.proofs.Plainly.{gliding_start, onward_few}
use Rattle.counts.proofs.glide.Goals as goal

pub returns-then-first-plan : goal.returns-then-first-plan
returns-then-first-plan c =
    let O = c.counted.ensures in
    record {
      first = c.counted.result;
      onward = rw c.from-i.ensures at O;
      more = rw (c.step.ensures, c.from-i.ensures) (gliding_start _ _ _ _ _ _ (omega (arith, O.steps, c.requires.2)));
    }

pub glide_on-requires : goal.glide_on-requires
glide_on-requires c =
    let O = c.counted.ensures in
    (c.requires.0, onward_few _ _ (c.requires.0.formed.cost_below _) c.requires.1 (omega (arith, c.requires.2, c.requires.3)) _ _ O, omega (arith, O.steps, c.requires.2), c.requires.3, c.requires.4)
