use Rattle.nl80211_replies.specs.Plain.{effect_list}
use Rattle.reg_journal.specs.declared.effects.TheConstants.{MOST_EFFECTS}
use Rattle.reply_reading.specs.Typed.{IsTypedEffect}
use Rattle.reply_reading.specs.inner.Reading.{effect_payload, payload_in}
use Rattle.reply_reading.proofs.Each.{one_more_few, through}
use Rattle.reply_reading.proofs.Fitting.{effect_fit}
use Rattle.reply_reading.proofs.effects.effects_in.Goals as goal

pub loop-attr-preserved : goal.loop-attr-preserved
loop-attr-preserved c =
    one_more_few IsTypedEffect effect_payload payload_in MOST_EFFECTS c.args.attrs.now c.loop-attr.attr-index c.attr-item.result c.effect_in.result c.loop-attr.effects c.push-has_room.new.self c.push-has_room.result
    c.loop-attr-test.true c.attr-item.is c.push-has_room.ensures.full c.push-has_room.ensures.pushed
    (through IsTypedEffect effect_list c.attr-item.result.payload c.in_ok-held.held c.effect_in.result effect_fit (rw c.as_slice.ensures.items at c.in_ok-held.ensures)
    (rw c.as_slice-in-loop-attr.ensures.items at c.effect_in.ensures)) c.loop-attr.invariant
