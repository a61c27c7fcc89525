use Rattle.std.proofs.Common.{◌≡◌}
use Rattle.rule_intersect.specs.Tables.{IsTableOf}
use Rattle.reg_journal.specs.Applicable.{global_domains, hints_of}
use Rattle.reg_journal.specs.Facts.{Journal}
use Rattle.core_parts.specs.Kept.{KeepsRadios}
use Rattle.core_parts.specs.Reading.{AreSectionsBelow}
use Rattle.reg_core.proofs.dumps.sections.all_sections.Given as goal

abbrev pub invariant-loop-number : goal.invariant-loop-number
invariant-loop-number l = (J : Journal) → hints_of J ≡ l.hints → IsTableOf (global_domains l.domains J) l.global → KeepsRadios l.domains J l.radios
    → AreSectionsBelow l.domains J l.number l.sections
