use Rattle.reply_reading.proofs.ReportsAgain.{report_again}
use Rattle.reply_reading.proofs.interfaces.iface_in.Goals as goal

pub returns : goal.returns
returns c = λ report is e.
    rw (c.radio_of.ensures, c.from.ensures, c.kind_numbered.ensures)
    (report_again report c.args.attrs.now c.in_ok-held.held c.name_at.result c.state_payload.result.now c.number_at.result c.number_at-2.result c.number_at-3.result c.setting_in.result c.state_in.result is e
    c.name_at.ensures c.number_at.ensures c.number_at-2.ensures c.number_at-3.ensures (rw c.attrs_from-more.ensures at c.setting_in.ensures) (rw c.attrs_from-more.ensures at c.state_payload.ensures)
    c.in_ok-held.ensures (rw c.as_slice.ensures.items at c.state_in.ensures))
