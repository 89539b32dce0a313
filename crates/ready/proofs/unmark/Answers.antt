use mathlib.Core.Path.{◌≡◌, ap, ◌∙◌}
use Prim.Native.Nat.{◌+◌, ◌-◌, ◌/◌, ◌%◌, ◌^◌}
use lib.ListN.{get_or}
use Rattle.sets.specs.Sets.{sets_of}
use Rattle.ready.specs.Ready.{member}
use Rattle.ready.proofs.Bits.{in_set_le, front_kept, front_member, unmarked_last, unmarked_not_last}
use Rattle.ready.proofs.unmark.Goals as goal
use Rattle.ready.proofs.unmark.Goals.{After-single}

pub overflow_sub-rest : goal.overflow_sub-rest
unfolding member sets_of
overflow_sub-rest c =
    let a = c.args in
    rw c.single.ensures (in_set_le (a.i % 64) (get_or a.ready.now (a.i / 64 + 1) 0) c.requires.2)

-- what is left of its set
rest_is : (c : After-single) → let a = c.args in let old = get_or a.ready.now (a.i / 64 + 1) 0 in old - c.single.result ≡ old - 2 ^ (a.i % 64)
rest_is c = let a = c.args in ap (λ x. get_or a.ready.now (a.i / 64 + 1) 0 - x) c.single.ensures

pub overflow_sub-ready : goal.overflow_sub-ready
overflow_sub-ready c =
    let a = c.args in
    let p = c.requires in
    rw c.single-then-rest-eq0.ensures (front_member a.ready.now a.i _ p.0 p.1 p.2)

pub returns-then-rest-eq0 : goal.returns-then-rest-eq0
returns-then-rest-eq0 c =
    let a = c.args in
    let p = c.requires in
    unmarked_last a.ready.now a.i _ _ p.0 p.1 p.2 (rest_is (goal.at.returns-then-rest-eq0 c).After-single) c.if-rest-eq0.true
    (ap (λ x. x - c.single-then-rest-eq0.result) (front_kept a.ready.now a.i _ p.0 p.1) ∙ ap (λ x. get_or a.ready.now 0 0 - x) c.single-then-rest-eq0.ensures)

pub returns-else-rest-eq0 : goal.returns-else-rest-eq0
returns-else-rest-eq0 c =
    let a = c.args in
    let p = c.requires in
    unmarked_not_last a.ready.now a.i _ p.0 p.1 p.2 (rest_is (goal.at.returns-else-rest-eq0 c).After-single) c.if-rest-eq0.false
