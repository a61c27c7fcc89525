use Rattle.std.proofs.Common.{◌≡◌, ◌++◌, None, codes, drop}
use Rattle.std.specs.List.{flat_map}
use Rattle.db_text.specs.PrintedRules.{printed_rule}
use Rattle.line_printing.proofs.rules_printer.put_more_rules.Given as goal

-- what was printed, and the rules that are left, are all
abbrev pub invariant-loop-rule : goal.invariant-loop-rule
invariant-loop-rule l =
    l.out ++ flat_map (λ next. codes "; " ++ printed_rule next None) (drop l.rule-index l.rules) ≡ l.initial.out ++ flat_map (λ next. codes "; " ++ printed_rule next None) l.rules
