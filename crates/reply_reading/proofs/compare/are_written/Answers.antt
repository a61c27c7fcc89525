use Rattle.std.proofs.Common.{length, sym, eq-eqb}
use Rattle.std.proofs.lemmas.Bool.{eqb-true}
use Rattle.std.proofs.lemmas.Slice.Zip.{AllZip-long}
use Rattle.reply_reading.specs.inner.Compared.{IsWritten}
use Rattle.reply_reading.proofs.Zipped.{agrees_to_end}
use Rattle.reply_reading.proofs.compare.are_written.Goals as goal

pub returns : goal.returns
returns c =
    let msgs = c.args.msgs.now in let written = c.args.written.now in (
      λ same. agrees_to_end IsWritten msgs written c.loop-k.k c.loop-k-test.false (eqb-true (length msgs) (length written) same) c.loop-k.invariant,
      λ all. eq-eqb (length msgs) (length written) (sym (AllZip-long IsWritten msgs written all)),
    )
