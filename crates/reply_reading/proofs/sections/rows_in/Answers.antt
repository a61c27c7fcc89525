use Rattle.reply_reading.specs.inner.Reading.{IsToldRow, payload_in, row_attrs, row_payload}
use Rattle.reply_reading.proofs.Each.{one_more, through}
use Rattle.reply_reading.proofs.Fitting.{row_fit}
use Rattle.reply_reading.proofs.sections.rows_in.Goals as goal

pub loop-attr-preserved : goal.loop-attr-preserved
loop-attr-preserved c =
    one_more IsToldRow row_payload payload_in c.args.attrs.now c.loop-attr.attr-index c.attr-item.result c.row_in.result c.loop-attr.rows c.push.new.self
    c.loop-attr-test.true c.attr-item.is c.in_ok-push.ensures.ok
    (through IsToldRow row_attrs c.attr-item.result.payload c.in_ok-held.held c.row_in.result row_fit (rw c.as_slice.ensures.items at c.in_ok-held.ensures)
    (rw c.as_slice-in-loop-attr.ensures.items at c.row_in.ensures)) c.loop-attr.invariant
