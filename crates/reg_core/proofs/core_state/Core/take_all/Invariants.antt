use Rattle.std.proofs.Common.{◌≡◌, List, drop, length}
use Rattle.rule_tables.specs.declared.domain.Domain.{Domain}
use Rattle.radio_drv.specs.Seen.{Seen}
use Rattle.std.specs.Prelude.{Option}
use Rattle.reg_journal.specs.Facts.{Journal}
use Rattle.reg_core.specs.Kept.{Keeps}
use Rattle.core_parts.specs.Changes.{AreEachTold, CanAllCome}
use Rattle.reg_core.proofs.Taking.{OnTheWay}
use Rattle.reg_core.proofs.core_state.Core.take_all.Given as goal

abbrev pub invariant-loop-change : goal.invariant-loop-change
invariant-loop-change g l = record {
  eight : length (g.D.DriverRow.seen l.drivers) ≡ 8;
  kept : (db : List Domain) (J : Journal) → Keeps db l.initial.self J → CanAllCome db J l.changes → OnTheWay db J l.changes l.change-index l.self;
  told : (last : List (Option Seen)) → AreEachTold (drop l.change-index l.changes) (g.D.DriverRow.seen l.drivers) last
      → AreEachTold l.changes (g.D.DriverRow.seen l.initial.drivers) last;
}
