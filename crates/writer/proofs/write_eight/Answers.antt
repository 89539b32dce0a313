-- Two words, the second over the end of the first.
use Rattle.writer.proofs.Writing.{eight_written}
use borrow.Author.Rules.{rules}
use Rattle.writer.proofs.write_eight.Goals as goal

pub returns : goal.returns
returns g c =
    let a = c.args in
    eight_written g.row.MARK c.requires.0 a.five a.e.first a.e.second c.requires.3 c.requires.4 a.bytes.now _ _ a.at _ _
    c.first_word.ensures c.second_word.ensures (search rules) c.requires.1 c.put_word.ensures c.put_word-2.ensures
