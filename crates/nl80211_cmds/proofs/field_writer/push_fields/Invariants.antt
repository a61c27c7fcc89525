-- what was written, and what the rest gives, is what all give
use Rattle.std.proofs.Common.{◌≡◌, ◌++◌, drop}
use Rattle.nl80211_cmds.specs.Fields.{fields_attrs}
use Rattle.nl80211_cmds.proofs.field_writer.push_fields.Given as goal

abbrev pub invariant-loop-field : goal.invariant-loop-field
invariant-loop-field l = l.out ++ fields_attrs (drop l.field-index l.fields) l.d ≡ l.initial.out ++ fields_attrs l.fields l.d
