use Rattle.reply_reading.proofs.WrittenAgain.{bare_is}
use Rattle.reply_reading.proofs.reading.bare_request.Goals as goal

pub returns-clause-request : goal.returns-clause-request
returns-clause-request c = rw (c.number.ensures.number, c.new.ensures.empty) (bare_is c.args.seq c.args.pid c.ranges.seq.fits c.ranges.pid.fits)
