use Rattle.nl80211_cmds.proofs.ReadFields.{far_more}
use Rattle.nl80211_cmds.proofs.field_reader.read_fields.Goals as goal

pub loop-field-preserved : goal.loop-field-preserved
loop-field-preserved c = far_more c.args.fields.now c.args.attrs.now c.args.draft.now c.loop-field.draft c.take_field.new.draft c.loop-field.field-index _ c.loop-field-test.true c.loop-field.invariant c.in_ok-take_field.ensures
