use Rattle.reply_reading.proofs.PartsAgain.{state_again}
use Rattle.reply_reading.proofs.interfaces.state_in.Goals as goal

pub returns : goal.returns
returns c = λ state is e.
    rw c.state_numbered.ensures
    (state_again state c.args.held.now c.number_at.result c.wide_at.result c.chan_in.result is e c.number_at.ensures c.chan_in.ensures c.wide_at.ensures)
