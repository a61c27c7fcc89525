use Rattle.std.proofs.Common.{◌≡◌, ◌≤◌, [], ◌∷◌, List, length, drop}
use Rattle.rule_tables.specs.declared.domain.Domain.{Domain}
use Rattle.reg_journal.specs.Facts.{Journal}
use Rattle.reg_journal.specs.Permits.{channels_beside}
use Rattle.reg_journal.specs.Present.{Iface, ifaces_of}
use Rattle.reg_journal.proofs.Distinct.{gathered}
use Rattle.core_parts.specs.Judging.{IsAmong}
use Rattle.core_parts.proofs.Beside.{beside_all}
use Rattle.core_parts.proofs.contexts.passes_contexts.Given as goal

abbrev pub invariant-loop-other : goal.invariant-loop-other
invariant-loop-other l = record {
  few : length l.found ≤ l.most;
  so_far : (db : List Domain) (J : Journal) (x : Iface) → IsAmong db J x l.interface l.interfaces l.radio
      → gathered l.found (beside_all J x (drop l.other-index (ifaces_of J))) ≡ gathered [] (l.chan ∷ channels_beside J x);
}
