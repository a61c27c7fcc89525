use Rattle.reply_reading.proofs.PartsAgain.{row_again}
use Rattle.reply_reading.proofs.sections.row_in.Goals as goal

pub returns : goal.returns
returns c = λ row is e.
    rw (c.flags_numbered.ensures, c.narrow16.ensures, c.from.ensures)
    (row_again row c.args.held.now c.number_at-4.result c.number_at.result c.number_at-2.result c.number_at-3.result c.number_at-5.result c.number_at-6.result is e
    c.number_at-4.ensures c.number_at.ensures c.number_at-2.ensures c.number_at-3.ensures c.number_at-5.ensures c.number_at-6.ensures)
