use Rattle.std.proofs.Common.{◌≡◌, ◌++◌, drop, map}
use Rattle.db_writer.specs.LaidOut.{wmm_place, rule_record}
use Rattle.db_writer.proofs.gather.add_rules.Given as goal

abbrev pub invariant-loop-rule : goal.invariant-loop-rule
invariant-loop-rule l =
    l.records.items ++ map (rule_record (wmm_place l.wmm_rules.first l.wmm_rules.records.items)) (drop l.rule-index l.rules)
    ≡ l.initial.records.items ++ map (rule_record (wmm_place l.wmm_rules.first l.wmm_rules.records.items)) l.rules
