use Rattle.seat_host.proofs.Closing.{last, stays_open, closes}
use Rattle.seat_host.proofs.seat_table.SeatTable.close.Goals as goal

pub returns-clause-ok : goal.returns-clause-ok
returns-clause-ok c =
    let l = last _ _ _ _ _ _ _ c.take-book.result c.close_with-closed.ensures.values.2 c.word-drawn.ensures c.word-served.ensures c.take-book.ensures.value in
    closes c.args.pass.table_id _ c.args.pass.me.0 c.word-drawn.result c.word-served.result c.take-book.result c.closed_by.result c.requires.given l c.closed_by.ensures.words c.closed_by.ensures.parts

pub returns-clause-err : goal.returns-clause-err
returns-clause-err c =
    let l = last _ _ _ _ _ _ _ c.take-book.result c.close_with-closed.ensures.values.2 c.word-drawn.ensures c.word-served.ensures c.take-book.ensures.value in
    stays_open c.args.pass.table_id _ c.args.pass.me.0 c.word-drawn.result c.word-served.result c.take-book.result c.closed_by.result l c.closed_by.ensures.words
