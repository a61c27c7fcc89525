use Rattle.std.proofs.Common.{◌≡◌, ◌++◌, drop, map}
use Rattle.db_text.specs.Printed.{rule_line, text_of_lines}
use Rattle.db_text.proofs.printer.put_rules.Given as goal

abbrev pub invariant-loop-rule : goal.invariant-loop-rule
invariant-loop-rule l =
    l.out ++ text_of_lines (map (rule_line l.names.rules.items) (drop l.rule-index l.rules))
    ≡ l.initial.out ++ text_of_lines (map (rule_line l.names.rules.items) l.rules)
