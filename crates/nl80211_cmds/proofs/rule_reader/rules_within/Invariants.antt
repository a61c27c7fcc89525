use Rattle.std.proofs.Common.{length}
use Rattle.nl80211_cmds.specs.inner.RuleReading.{HoldsSoFar}
use Rattle.nl80211_cmds.proofs.rule_reader.rules_within.Given as goal

abbrev pub invariant-rules : goal.invariant-rules
invariant-rules l = HoldsSoFar l.walk l.payload l.rules

abbrev pub decreases-rules : goal.decreases-rules
decreases-rules l = length l.walk.left
