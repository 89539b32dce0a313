-- What C gets of the judge's answer (3.11): its code (9.4), and the verdicts, 0 after a refusal (9.3).
use Rattle.std.specs.Prelude.{false, ◌+◌, ◌*◌}
use Rattle.planning.specs.Basics.{Answer, refused, done}
use Rattle.planning.specs.Runs as runs
use Rattle.mardiskos.specs.declared.Judgement.{Judgement}

abbrev pub flat_of : Answer runs.Judgement → Judgement
flat_of (refused n p) = record { code = 32 * p + n; relaxed_steps = 0; red_black_steps = 0; real_steps = 0; relaxed_plan = false; red_black_plan = false; real_plan = false }
flat_of (done j) =
    record {
      code = 0;
      relaxed_steps = j.relaxed'.steps;
      red_black_steps = j.red_black.steps;
      real_steps = j.real'.steps;
      relaxed_plan =
          j.relaxed'.plan;
      red_black_plan = j.red_black.plan;
      real_plan = j.real'.plan;
    }
