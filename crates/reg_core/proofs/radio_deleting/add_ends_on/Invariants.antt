use Rattle.std.proofs.Common.{◌==◌, List, filter, take}
use Rattle.rule_tables.specs.declared.domain.Domain.{Domain}
use Rattle.reg_journal.specs.Facts.{Journal}
use Rattle.reg_journal.specs.Present.{ifaces_of}
use Rattle.reg_core.specs.inner.Removals.{AreEnds, AreOnRadio}
use Rattle.reg_core.proofs.radio_deleting.add_ends_on.Given as goal

abbrev pub invariant-loop-interface : goal.invariant-loop-interface
invariant-loop-interface l = (db : List Domain) (J : Journal) → AreOnRadio db J l.number l.interfaces l.radio
    → AreEnds J (filter (λ x. x.radio == l.number) (take l.interface-index (ifaces_of J))) l.changes
