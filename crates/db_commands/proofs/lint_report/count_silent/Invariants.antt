use Rattle.std.proofs.Common.{◌≡◌, ◌≤◌, count_by, is_none, take}
use Rattle.db_commands.proofs.lint_report.count_silent.Given as goal

-- the notes so far
abbrev pub invariant-loop-note : goal.invariant-loop-note
invariant-loop-note l = record {
  exact : l.count ≡ count_by (λ note. is_none note.least) (take l.note-index l.notes);
  small : l.count ≤ l.note-index;
}
