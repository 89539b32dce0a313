use mathlib.Core.Path.{◌≡◌, ◌∙◌}
use Prim.Native.Nat.{◌+◌, ◌-◌}
use native.Mathlib.Omega.{arith}
use Rattle.waiting.proofs.Chains.{sites_ended, sites_spent, front, sites_settled}
use Rattle.waiting.proofs.Waits.settle_all.Goals as goal

pub returns-then-j-ge1024-clause-settled : goal.returns-then-j-ge1024-clause-settled
returns-then-j-ge1024-clause-settled c = sites_ended c.loop.invariant.0 c.if-j-ge1024.true

pub settle-requires-clause-loaded : goal.settle-requires-clause-loaded
settle-requires-clause-loaded c =
    let S = c.loop.invariant.0 in
    (c.requires.0, c.if-j-ge1024.false, rw c.loop.invariant.1 (S.named c.loop.j (front S c.if-j-ge1024.false).below))

pub settle-requires-clause-ready : goal.settle-requires-clause-ready
settle-requires-clause-ready c =
    let S = c.loop.invariant.0 in
    (S.ready_sound, rw c.loop.invariant.1 (S.places c.loop.j (front S c.if-j-ge1024.false).below), S.long)

pub loop-preserved : goal.loop-preserved
loop-preserved c =
    let I = c.loop.invariant in
    let minus : 1024 - (c.loop.counter + 1) ≡ 1024 - c.loop.counter - 1 = omega arith in
    (rw (c.from.ensures, minus) (sites_settled I.0 c.if-j-ge1024.false _ _ (rw I.1 at c.settle.ensures.settles)), c.settle.ensures.same ∙ I.1)

pub returns-clause-settled : goal.returns-clause-settled
returns-clause-settled c = sites_spent c.loop.invariant.0 (omega arith)
