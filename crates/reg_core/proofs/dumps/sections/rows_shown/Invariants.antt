use Rattle.std.proofs.Common.{◌≡◌, map, take}
use Rattle.reg_journal.specs.Dumps.{row_shown}
use Rattle.reg_core.proofs.dumps.sections.rows_shown.Given as goal

abbrev pub invariant-loop-k : goal.invariant-loop-k
invariant-loop-k l = l.rows ≡ map row_shown (take l.k l.table.rows)
