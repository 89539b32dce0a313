use mathlib.Core.Path.{refl}
use Rattle.text.proofs.Texts.{put_then, line_end}
use Rattle.text.proofs.put_refusal.Goals as goal

pub returns : goal.returns
returns c =
    rw (← c.from.ensures, ← c.from-2.ensures) (put_then (line_end _ _ _) (put_then refl c.put_head-number.ensures.0 c.put_number-place.ensures.0) c.put.ensures)
