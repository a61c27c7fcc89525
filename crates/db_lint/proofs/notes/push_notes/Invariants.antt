use Rattle.std.proofs.Common.{◌≡◌, List, ◌++◌}
use Rattle.db_lint.specs.Notes.{AreFirstNotes}
use Rattle.db_lint.specs.declared.notes.RuleNote.{RuleNote}
use Rattle.db_lint.proofs.notes.push_notes.Given as goal

abbrev pub invariant-loop-k : goal.invariant-loop-k
invariant-loop-k l = (own : List RuleNote) × (l.notes ≡ l.initial.notes ++ own) × AreFirstNotes l.fn.domain l.k own
