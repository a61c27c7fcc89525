use Rattle.std.proofs.Common.{◌≡◌, ◌++◌, length}
use Rattle.std.specs.BTreeMap.{values}
use Rattle.rule_text.proofs.map_values.values_of.Given as goal

abbrev pub invariant-taking : goal.invariant-taking
invariant-taking g l = l.list.items ++ values l.left ≡ values l.initial.left

abbrev pub decreases-taking : goal.decreases-taking
decreases-taking g l = length l.left.entries
