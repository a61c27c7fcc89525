-- what was written, and what the rest gives, is what all give
use Rattle.std.proofs.Common.{◌≡◌, ◌++◌, drop, map}
use Rattle.nl_attrs.specs.Attributes.{attrs_bytes}
use Rattle.nl80211_cmds.specs.Rules.{nested_limits}
use Rattle.nl80211_replies.specs.Dumps.{limits_of_row}
use Rattle.nl80211_replies.proofs.sections.rows_bytes.Given as goal

abbrev pub invariant-loop-place : goal.invariant-loop-place
invariant-loop-place l =
    l.bytes ++ attrs_bytes (nested_limits l.place (map limits_of_row (drop l.place l.rows))) ≡ attrs_bytes (nested_limits 0 (map limits_of_row l.rows))
