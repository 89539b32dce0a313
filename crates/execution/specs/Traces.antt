-- One pass over a list: the red-black run up to where it stops, and the steps that run for real.
use Rattle.std.specs.Prelude.{◌≡◌, List, ℕ}
use Rattle.planning.specs.Record.{Task}
use Rattle.planning.specs.Runs.{State, real, black, act, initial, steps_run}
use Rattle.planning.specs.Newest.{Values, red_black_steps, stops_in}
use Rattle.sets.specs.Sets.{sets_of, values_of, mode_of, red_black_of}
use Rattle.callers.specs.Callers.{Relaxes}
use Rattle.execution.specs.declared.Trace.{Trace}

-- 3.13: the parts of a pass for the verdicts. Where the red-black run stops, the values held so far and the newest ones, which show its state;
-- how many steps run for real, and again those newest values
pub record StopsAs (t : Task) (l : List ℕ) (s : State) (f : Values) (n : ℕ) : Type 0 where
  pub steps : n ≡ red_black_steps t l
  pub state : red_black_of (black t) s f ≡ (stops_in t l).sets

pub record RunsAs (t : Task) (l : List ℕ) (f : Values) (n : ℕ) : Type 0 where
  pub runs : n ≡ steps_run (act t) real l (initial t)
  pub newest : f ≡ (stops_in t l).newest

-- 3.13: what a pass over the list l finds
pub record Traces (t : Task) (l : List ℕ) (x : Trace) : Type 0 where
  pub black_ones : mode_of x.paint ≡ black t
  pub painted : StopsAs t l (sets_of x.state.sets) (values_of x.state.newest.values) x.steps
  pub run_real : RunsAs t l (values_of x.state.newest.values) x.runs
  pub relaxed' : Relaxes t l (sets_of x.state.sets) x.steps
