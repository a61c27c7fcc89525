use Rattle.nl_attrs.specs.Messages.{attrs_in}
use Rattle.nl80211_replies.specs.Dumps.{section_attrs}
use Rattle.reply_reading.specs.inner.Reading.{IsToldSection}
use Rattle.reply_reading.proofs.Each.{one_more}
use Rattle.reply_reading.proofs.sections.sections_in.Goals as goal

pub loop-msg-preserved : goal.loop-msg-preserved
loop-msg-preserved c =
    one_more IsToldSection section_attrs attrs_in c.args.msgs.now c.loop-msg.msg-index c.msg-item.result c.in_ok-section_in.field-0 c.loop-msg.sections c.push.new.self
    c.loop-msg-test.true c.msg-item.is c.in_ok-push.ensures.ok (rw c.attrs_in.ensures at c.in_ok-section_in.ensures) c.loop-msg.invariant
