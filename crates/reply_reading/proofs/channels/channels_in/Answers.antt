use Rattle.nl_attrs.specs.Messages.{attrs_in}
use Rattle.nl80211_replies.specs.Dumps.{channel_attrs}
use Rattle.reply_reading.specs.inner.Reading.{IsToldChannel}
use Rattle.reply_reading.proofs.Each.{one_more}
use Rattle.reply_reading.proofs.channels.channels_in.Goals as goal

pub loop-msg-preserved : goal.loop-msg-preserved
loop-msg-preserved c = λ r.
    one_more IsToldChannel (channel_attrs r) attrs_in c.args.msgs.now c.loop-msg.msg-index c.msg-item.result c.channel_in.result c.loop-msg.list c.push.new.self
    c.loop-msg-test.true c.msg-item.is c.in_ok-push.ensures.ok (rw c.attrs_in.ensures at (c.channel_in.ensures r)) (c.loop-msg.invariant r)
