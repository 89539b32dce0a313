use mathlib.Core.Path.{refl, sym, ap, ◌∙◌}
use Prim.Native.Nat.{◌<◌}
use native.Mathlib.Omega.{arith}
use Rattle.clients_first.proofs.Clients.{taking_start, taking_found, taking_turn, taking_stop, taking_end}
use Rattle.task.specs.Goals.{option_of}
use Rattle.clients_first.proofs.fill_order.Goals as goal
use Rattle.clients_first.proofs.fill_order.Goals.{In-Some}

pub loop-k-init : goal.loop-k-init
loop-k-init c = let p = c.requires in taking_start _ _ _ p.1 c.variables-n.ensures _ _ p.2 (omega (arith, p.0.formed.variables_max, c.variables-n.ensures)) p.0.head

pub returns-in_default : goal.returns-in_default
returns-in_default c =
    let p = c.requires in
    taking_stop _ _ _ p.1 c.variables-n.ensures _ _ _ _ c.loop-k.invariant (sym (ap option_of c.in_default.is) ∙ c.lowest_ready.ensures) refl

-- the variable found is below 64
below : (c : In-Some) → c.in-Some.v < 64
below c =
    let p = c.requires in
    let i = c.loop-k.invariant in
    let b = taking_found _ _ _ p.1 c.variables-n.ensures _ _ _ _ i _ c.in-Some.ensures in
    omega (arith, i.few, b.0)

pub set_order-requires : goal.set_order-requires
set_order-requires c = let i = c.loop-k.invariant in (omega (arith, i.few), below (goal.at.set_order-requires c).In-Some, omega (arith, i.long, i.room))

pub single-left-requires : goal.single-left-requires
single-left-requires c = below (goal.at.single-left-requires c).In-Some

pub loop-k-preserved : goal.loop-k-preserved
loop-k-preserved c =
    let p = c.requires in
    taking_turn _ _ _ p.1 c.variables-n.ensures _ _ _ _ c.loop-k.invariant (omega arith) _ _ _ c.in-Some.ensures
    c.single-left.ensures c.set_order.ensures

pub returns : goal.returns
returns c = let p = c.requires in taking_end _ _ _ p.1 c.variables-n.ensures _ _ _ _ c.loop-k.invariant (omega arith) refl
