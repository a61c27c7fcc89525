use Rattle.reply_reading.proofs.PartsAgain.{fit_again}
use Rattle.reply_reading.proofs.channels.fit_in.Goals as goal

pub returns : goal.returns
returns c = λ fit more is e.
    rw (c.flags_numbered.ensures, c.narrow16.ensures, c.from.ensures, c.narrow32.ensures)
    (fit_again fit more c.args.attrs.now c.number_at.result c.number_at-2.result c.number_at-3.result c.wide_at.result is e
    c.number_at.ensures c.number_at-2.ensures c.number_at-3.ensures c.wide_at.ensures)
