use Rattle.reply_reading.specs.Typed.{IsTypedIface}
use Rattle.reply_reading.specs.inner.Reading.{iface_list, iface_payload, payload_in}
use Rattle.reply_reading.proofs.Each.{one_more, through}
use Rattle.reply_reading.proofs.Fitting.{iface_fit}
use Rattle.reply_reading.proofs.radios.ifaces_in.Goals as goal

pub loop-attr-preserved : goal.loop-attr-preserved
loop-attr-preserved c =
    one_more IsTypedIface iface_payload payload_in c.args.attrs.now c.loop-attr.attr-index c.attr-item.result c.iface_in.result c.loop-attr.ifaces c.push.new.self
    c.loop-attr-test.true c.attr-item.is c.in_ok-push.ensures.ok
    (through IsTypedIface iface_list c.attr-item.result.payload c.in_ok-held.held c.iface_in.result iface_fit (rw c.as_slice.ensures.items at c.in_ok-held.ensures)
    (rw c.as_slice-in-loop-attr.ensures.items at c.iface_in.ensures)) c.loop-attr.invariant
