-- What is packed of the whole is what stands in front and what is packed of five bits and the steps that are left.
use Prim.Native.Nat.{suc, ◌*◌}
use Rattle.pack.specs.Fields.{entries}
use Rattle.writer.proofs.Writing.{Writing}
use Rattle.writer.proofs.write_entries.Given as goal

abbrev pub invariant-loop-k : goal.invariant-loop-k
invariant-loop-k g l = Writing g.row.MARK (entries (suc g.row.MARK) l.list l.marks) l.head l.size l.initial.bytes l.bytes l.five l.at (8 * l.k)
