use Rattle.std.proofs.Common.{◌≡◌, ◌++◌, drop, map}
use Rattle.db_writer.specs.inner.Filed.{rule_at_in}
use Rattle.db_writer.proofs.gather.places_of_rules.Given as goal

abbrev pub invariant-loop-rule : goal.invariant-loop-rule
invariant-loop-rule l = l.places ++ map (rule_at_in l.sections) (drop l.rule-index l.rules) ≡ map (rule_at_in l.sections) l.rules
