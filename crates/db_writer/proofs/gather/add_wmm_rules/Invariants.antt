use Rattle.std.proofs.Common.{◌≡◌, ◌++◌, drop, flat_map}
use Rattle.db_writer.specs.inner.Gathered.{wmm_rules_of_rule}
use Rattle.db_writer.proofs.gather.add_wmm_rules.Given as goal

abbrev pub invariant-loop-rule : goal.invariant-loop-rule
invariant-loop-rule l = l.records.items ++ flat_map wmm_rules_of_rule (drop l.rule-index l.rules) ≡ l.initial.records.items ++ flat_map wmm_rules_of_rule l.rules
