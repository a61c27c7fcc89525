-- How far the report on the rules of a database has come.
use Rattle.std.specs.Prelude.{◌≡◌, ℕ, List, ◌++◌, map}
use Rattle.rule_tables.specs.declared.domain.Domain.{Domain}
use Rattle.db_lint.specs.Notes.{AreNotes}
use Rattle.db_lint.specs.declared.notes.RuleNote.{RuleNote}
use Rattle.db_text.specs.Printed.{text_of_lines}
use Rattle.db_commands.specs.Reports.{note_line, silent_count}

-- behind what stood there, the text has a line for each note on the domains, of which so many are on rules that govern no channel
pub record AreNotedLines (ds : List Domain) (before text : List ℕ) (silent : ℕ) : Type 0 where
  pub notes : List RuleNote
  pub are : AreNotes ds notes
  pub lines : text ≡ before ++ text_of_lines (map note_line notes)
  pub count : silent ≡ silent_count notes
