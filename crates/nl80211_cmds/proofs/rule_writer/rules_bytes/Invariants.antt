-- what was written, and what the rest gives, is what all give
use Rattle.std.proofs.Common.{◌≡◌, ◌++◌, drop}
use Rattle.nl_attrs.specs.Attributes.{attrs_bytes}
use Rattle.nl80211_cmds.specs.Rules.{nested_rules}
use Rattle.nl80211_cmds.proofs.rule_writer.rules_bytes.Given as goal

abbrev pub invariant-loop-place : goal.invariant-loop-place
invariant-loop-place l = l.bytes ++ attrs_bytes (nested_rules l.place (drop l.place l.rules)) ≡ attrs_bytes (nested_rules 0 l.rules)
