use native.Mathlib.Omega.{arith}
use lib.ListN.{length-set}
use Rattle.bits.proofs.Pack.{write_turn, write_end}
use Rattle.bits.proofs.write_bits.Goals as goal

pub loop-i-preserved : goal.loop-i-preserved
loop-i-preserved c = (simp length-set (omega arith), write_turn _ _ _ _ _ _ _ c.loop-i.invariant.1 (omega arith) (omega arith) (omega arith))

pub returns : goal.returns
returns c = let a = c.args in write_end a.bytes.now _ a.at a.count a.width a.value c.loop-i.i c.loop-i.invariant.1 (omega arith)
