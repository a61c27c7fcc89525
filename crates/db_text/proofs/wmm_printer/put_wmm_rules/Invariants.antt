use Rattle.std.proofs.Common.{◌≡◌, ◌++◌, drop}
use Rattle.db_text.specs.Printed.{text_of_lines, wmm_lines_from}
use Rattle.db_text.proofs.wmm_printer.put_wmm_rules.Given as goal

abbrev pub invariant-loop-number : goal.invariant-loop-number
invariant-loop-number l = l.out ++ text_of_lines (wmm_lines_from l.number (drop l.number l.rules)) ≡ l.initial.out ++ text_of_lines (wmm_lines_from 0 l.rules)
