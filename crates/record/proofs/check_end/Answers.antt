use Rattle.record.proofs.Laws.{end_bytes, end_padding, end_right}
use native.Mathlib.Omega.{arith}
use borrow.Author.Rules.{rules}
use Rattle.record.proofs.check_end.Goals.{then-bytes-size-via-then-bytes-size, then-bytes-size-via-else-bytes-size+then-read_bits-ne0}
use Rattle.record.proofs.check_end.Goals as goal

pub returns-then-bytes-size : goal.returns-then-bytes-size
returns-then-bytes-size c = elim c.then-bytes-size.branch [
  | then-bytes-size-via-then-bytes-size w ↦ end_bytes _ _ c.requires.1 w.if-bytes-size.true
  | then-bytes-size-via-else-bytes-size+then-read_bits-ne0 w ↦ end_padding _ _ c.requires.1 _ _ w.if-bytes-size.false (omega (arith, w.if-bytes-size.false)) w.read_bits.ensures
      w.if-read_bits-ne0.true
]

pub returns : goal.returns
returns c = end_right _ _ (search rules) _ _ (omega arith) (omega arith) c.read_bits.ensures c.if-read_bits-ne0.false
