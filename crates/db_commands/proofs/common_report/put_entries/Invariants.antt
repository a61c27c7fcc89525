use Rattle.std.proofs.Common.{◌≡◌, ◌++◌, drop, map}
use Rattle.db_text.specs.Printed.{text_of_lines}
use Rattle.db_commands.specs.Reports.{common_line}
use Rattle.db_commands.proofs.common_report.put_entries.Given as goal

abbrev pub invariant-loop-entry : goal.invariant-loop-entry
invariant-loop-entry l = l.out ++ text_of_lines (map common_line (drop l.entry-index l.list)) ≡ l.initial.out ++ text_of_lines (map common_line l.list)
