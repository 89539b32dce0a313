use native.Mathlib.Omega.{arith}
use Rattle.text.proofs.Lists.{list_start, list_turn}
use Rattle.text.proofs.put_list.Goals as goal

pub loop-n-init : goal.loop-n-init
loop-n-init c = let a = c.args in (list_start a.out.now a.list.now a.at, omega arith)

pub loop-n-preserved : goal.loop-n-preserved
loop-n-preserved c =
    let a = c.args in
    let k = c.loop-n.n-index in
    let N = c.put_number-end.ensures in
    let x = N.2 (omega (arith, c.from.ensures, c.type_inv.list k)) in (
      list_turn a.out.now a.list.now a.at _ _ k _ _ _ (omega arith) c.from.ensures c.loop-n.invariant.0 N.0,
      omega arith,
    )
