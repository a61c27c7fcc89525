use Rattle.std.proofs.Common.{take}
use Rattle.db_lint.specs.Notes.{AreNotes}
use Rattle.db_lint.proofs.notes.lint.Given as goal

abbrev pub invariant-loop-domain : goal.invariant-loop-domain
invariant-loop-domain l = AreNotes (take l.domain-index l.domain-items) l.notes
