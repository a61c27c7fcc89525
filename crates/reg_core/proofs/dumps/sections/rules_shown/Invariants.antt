use Rattle.std.proofs.Common.{◌≡◌, map, take}
use Rattle.reg_journal.specs.Dumps.{row_as_is}
use Rattle.reg_core.proofs.dumps.sections.rules_shown.Given as goal

abbrev pub invariant-loop-rule : goal.invariant-loop-rule
invariant-loop-rule l = l.rows ≡ map row_as_is (take l.rule-index l.rules)
