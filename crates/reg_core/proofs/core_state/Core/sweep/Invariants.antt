use Rattle.std.proofs.Common.{List, ◌≤◌, length, take}
use Rattle.rule_tables.specs.declared.domain.Domain.{Domain}
use Rattle.reg_journal.specs.Facts.{Journal}
use Rattle.reg_journal.specs.Present.{ifaces_of}
use Rattle.reg_core.specs.Kept.{Keeps}
use Rattle.reg_core.specs.inner.Sweeping.{AreEach, AreMoved}
use Rattle.reg_core.proofs.SweepPlaces.{JudgesWanted}
use Rattle.reg_core.proofs.core_state.Core.sweep.Given as goal

abbrev pub invariant-loop-k : goal.invariant-loop-k
invariant-loop-k l = record {
  few : length l.changes ≤ l.k;
  each : (db : List Domain) (J : Journal) → Keeps db l.self J → AreMoved db J l.moved → AreEach (JudgesWanted db J l.only) (take l.k (ifaces_of J)) l.changes;
}
