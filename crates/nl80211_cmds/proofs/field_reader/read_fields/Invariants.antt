use Rattle.nl80211_cmds.proofs.ReadFields.{IsFarSo}
use Rattle.nl80211_cmds.proofs.field_reader.read_fields.Given as goal

abbrev pub invariant-loop-field : goal.invariant-loop-field
invariant-loop-field l = IsFarSo l.fields l.attrs l.initial.draft l.field-index l.draft
