-- Two words, the second behind the first.
use Rattle.writer.proofs.Writing.{last_written}
use borrow.Author.Rules.{rules}
use Rattle.writer.proofs.write_last.Goals as goal

pub returns : goal.returns
returns g c =
    let a = c.args in
    last_written g.row.MARK c.requires.0 a.five a.e.first a.e.second c.requires.4 c.requires.5 a.bytes.now _ _ a.at _ _
    c.first_word.ensures c.second_word.ensures (search rules) a.count _ c.min-n.ensures c.requires.1 c.requires.2
    c.write_bits.ensures c.write_bits-2.ensures
