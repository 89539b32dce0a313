-- The goals in the front of a list, as a slice.
use Prim.Native.Nat.{◌<◌}
use native.Mathlib.Omega.{arith}
use lib.ListN.{take, length-take}
use Rattle.std.proofs.lemmas.List.{get_or-take}
use Rattle.planning.specs.Record.{Task}
use Rattle.planning.specs.Runs.{goals}
use Rattle.task.specs.Task.{facts_of, facts_in, States}
use Rattle.state.specs.Goals.{GoalsOf}
use Rattle.state.specs.declared.Goals.{Goals}

pub goals_states : (t : Task) (g : Goals) → GoalsOf t g → States (take g.count g.facts) (goals t)
unfolding facts_of facts_in
goals_states t g G = record {
  stated = G.are;
  small = λ k h.
      let b : k < g.count = omega (arith, length-take g.count g.facts) in
      rw (get_or-take g.count g.facts k 0 b) (G.small k b);
}
