use Rattle.std.proofs.Common.{Some, ap}
use Rattle.reply_reading.proofs.ReportsAgain.{no_radio, radio_again}
use Rattle.reply_reading.proofs.radios.radio_in.Goals as goal

pub returns-in-Some : goal.returns-in-Some
returns-in-Some c = λ report is e.
    ap Some (rw (c.radio_of.ensures, c.from.ensures)
    (radio_again report c.args.attrs.now c.in_ok-held.held c.number_at.result c.in-Some.profile c.in_ok-ifaces.ifaces is e (rw c.payload_at.ensures at c.in_ok-held.ensures)
    (rw (c.attrs_from.ensures, c.as_slice.ensures.items) at c.in_ok-ifaces.ensures) (rw c.as_slice-2.ensures.items at c.in-Some.ensures) c.number_at.ensures))

pub returns : goal.returns
returns c = λ report is e.
    absurd (no_radio report c.args.attrs.now c.in_ok-held.held is e (rw c.payload_at.ensures at c.in_ok-held.ensures) (rw c.as_slice-2.ensures.items at c.in-None.ensures))
