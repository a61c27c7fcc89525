use Rattle.std.proofs.Common.{◌≡◌, ◌++◌, drop, map}
use Rattle.db_text.specs.Printed.{text_of_lines}
use Rattle.db_commands.specs.Reports.{note_line}
use Rattle.db_commands.proofs.lint_report.put_notes.Given as goal

abbrev pub invariant-loop-note : goal.invariant-loop-note
invariant-loop-note l = l.out ++ text_of_lines (map note_line (drop l.note-index l.notes)) ≡ l.initial.out ++ text_of_lines (map note_line l.notes)
