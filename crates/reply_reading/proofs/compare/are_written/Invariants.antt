-- the messages agree exactly where what is left of them does
use Rattle.reply_reading.specs.inner.Compared.{IsWritten}
use Rattle.reply_reading.proofs.Zipped.{LeftAgree}
use Rattle.reply_reading.proofs.compare.are_written.Given as goal

abbrev pub invariant-loop-k : goal.invariant-loop-k
invariant-loop-k l = LeftAgree IsWritten l.msgs l.written l.k
