use Rattle.reply_reading.proofs.ReportsAgain.{section_again}
use Rattle.reply_reading.proofs.sections.section_in.Goals as goal

pub returns : goal.returns
returns c = λ section is e.
    rw c.region_numbered.ensures
    (section_again section c.args.attrs.now c.behind_radio-more.result.now c.in_ok-held.held c.section_radio.result c.code_at.result c.byte_at.result c.in_ok-rows.rows is e
    c.section_radio.ensures c.behind_radio-more.ensures c.code_at.ensures c.byte_at.ensures (rw c.payload_at.ensures at c.in_ok-held.ensures) (rw c.as_slice.ensures.items at c.in_ok-rows.ensures))
