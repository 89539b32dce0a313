use mathlib.Core.Path.{◌≡◌, refl, sym, ap, ◌∙◌}
use Prim.Native.Nat.{◌<◌}
use native.Mathlib.Omega.{arith}
use Rattle.task.specs.Task.{task_in}
use mathlib.Core.Option.{some}
use Rattle.planning.specs.Runs.{variable}
use Rattle.task.specs.Goals.{option_of}
use Rattle.sets.proofs.Listing.{goals_small}
use Rattle.sets.proofs.Loading.{goal_small, loading_start, loading_skip, loading_take, loading_end}
use Rattle.state.proofs.Goals.load.Goals as goal
use Rattle.state.proofs.Goals.load.Goals.{In-Some}

pub loop-v-init : goal.loop-v-init
loop-v-init c = loading_start _ _ c.requires.formed c.variables-n.ensures

pub loop-v-preserved-in_default : goal.loop-v-preserved-in_default
loop-v-preserved-in_default c = loading_skip _ _ _ _ _ c.loop-v.invariant (omega arith) (sym c.goal_of.ensures ∙ ap option_of c.in_default.is)

found : (c : In-Some) → (variable (task_in c.args.task.now)
    c.loop-v.v).goal ≡ some c.in-Some.x
found c = sym c.goal_of.ensures ∙ ap option_of c.in-Some.is

small : (c : In-Some) → c.in-Some.x < 64
small c = goal_small _ _ _ c.loop-v.invariant.over.formed (found c)

pub loop-v-preserved : goal.loop-v-preserved
loop-v-preserved c = loading_take _ _ _ _ _ c.loop-v.invariant (omega arith) _ _ (found (goal.at.loop-v-preserved c).In-Some) refl

pub returns : goal.returns
returns c =
    let p = c.loop-v.invariant in
    let s = c.args.task.now in
    let e = loading_end _ _ _ _ _ p (omega arith) in
    record {
      few = omega (arith, p.few, p.over.within, p.over.most);
      small = goals_small (task_in s) _ _ p.over.formed
          (omega (arith, p.few, p.over.within, p.over.most, p.long)) e;
      are = e;
    }
